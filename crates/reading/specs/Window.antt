-- What a window shows of a file, whatever bytes `rest` stand behind it.
use Rattle.std.specs.Prelude.{◌≡◌, ℕ, ◌+◌, List, [], ◌∷◌, ◌++◌, drop, true, Some, None, Option, Ok, Err, Result}
use Rattle.capture.specs.declared.fault.CaptureFault.{CaptureFault}
use Rattle.capture.specs.declared.frame.Frame.{Frame}
use Rattle.capture.specs.Held.{Held, view}
use Rattle.capture.specs.Records.{contents}
use Rattle.reading.specs.declared.window.Window.{Window}

-- what the file holds from where the window stands
abbrev pub ahead : Window → List ℕ → List (Result Held CaptureFault)
ahead w rest = contents w.part.format 0 (drop w.at w.part.bytes.now ++ rest) (w.part.offset + w.at)

-- a record is the next that the file holds, and the window goes on behind it; else it stays where it is, and where the file
-- ends with the window nothing is left
abbrev pub Shows : Window → List ℕ → Result (Option Frame) CaptureFault → Window → Type 0
Shows before rest (Ok (Some frame)) after = ahead before rest ≡ Ok (view frame) ∷ ahead after rest
Shows before rest (Ok None) after = (ahead after rest ≡ ahead before rest) × (before.part.last ≡ true → ahead before rest ≡ [])
Shows before rest (Err e) after = ahead before rest ≡ Err e ∷ []

-- only a record moves the window on
abbrev pub moves : Result (Option Frame) CaptureFault → ℕ → ℕ
moves (Ok (Some frame)) least = least
moves (Ok None) least = 0
moves (Err e) least = 0
