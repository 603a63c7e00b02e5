-- How the count of a file's records goes on behind a window.
use Rattle.std.specs.Prelude.{◌≡◌, ℕ, List, true, Some, None, Option}
use Rattle.capture.specs.declared.fault.CaptureFault.{CaptureFault}
use Rattle.capture.specs.declared.tally.Tally.{Tally}
use Rattle.capture.specs.Tally.{tallied, ended}
use Rattle.reading.specs.declared.window.Window.{Window}
use Rattle.reading.specs.Window.{ahead}

-- the tally of all that a file holds from where the window stands is the tally after it, with what the file holds from where
-- the window stands then; where the file ends with the window it is that tally, and where the file breaks, that tally with the
-- fault
abbrev pub GoesOn : Window → List ℕ → Tally → Tally → Window → Option CaptureFault → Type 0
GoesOn window rest before after shown None =
    (tallied before (ahead window rest) ≡ tallied after (ahead shown rest))
    × (window.part.last ≡ true → tallied before (ahead window rest) ≡ after)
GoesOn window rest before after shown (Some e) = tallied before (ahead window rest) ≡ ended after e
