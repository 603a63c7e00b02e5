-- What an opened capture still has to hand out, and what opening and one step leave.
use Rattle.std.specs.Prelude.{◌≡◌, ℕ, List, [], ◌∷◌, drop, Some, None, Ok, Err, Option, Result}
use Rattle.capture.specs.declared.fault.CaptureFault.{CaptureFault}
use Rattle.capture.specs.declared.file.Capture.{Capture}
use Rattle.capture.specs.declared.frame.Frame.{Frame}
use Rattle.capture.specs.Held.{Held, view}
use Rattle.capture.specs.Header.{format_of}
use Rattle.capture.specs.Records.{contents, file_holds}

abbrev pub left : Capture → List (Result Held CaptureFault)
left c = contents c.format 0 (drop c.at c.bytes.now) c.at

-- an opened file has all that the file holds to hand out, and stands behind the header
abbrev pub Opened : List ℕ → Result Capture CaptureFault → Type 0
Opened bs (Ok c) = (left c ≡ file_holds bs) × (format_of bs ≡ Ok c.format) × (c.bytes.now ≡ bs) × (c.at ≡ 24)
Opened bs (Err e) = (file_holds bs ≡ Err e ∷ []) × (format_of bs ≡ Err e)

-- a step hands out the next of what is left; an end and a fault leave the capture as it is
abbrev pub Stepped : Capture → Result (Option Frame) CaptureFault → Capture → Type 0
Stepped c (Ok (Some frame)) after =
    (left c ≡ Ok (view frame) ∷ left after) × (after.format ≡ c.format) × (after.bytes.now ≡ c.bytes.now)
Stepped c (Ok None) after = (left c ≡ []) × (after ≡ c)
Stepped c (Err e) after = (left c ≡ Err e ∷ []) × (after ≡ c)
