-- Records one behind the other: what stands behind whole records changes nothing of what they hold.
use Rattle.std.specs.Prelude.{◌≡◌, ℕ, ◌+◌, Bool, true, false, List, [], ◌∷◌, ◌++◌, length, Ok, Err, Result}
use Rattle.capture.specs.declared.fault.CaptureFault.{CaptureFault}
use Rattle.capture.specs.declared.format.Format.{Format}
use Rattle.capture.specs.Held.{Held}
use Rattle.capture.specs.Records.{contents}

-- no fault among what some bytes hold
abbrev pub faultless : List (Result Held CaptureFault) → Bool
faultless [] = true
faultless (Ok held ∷ more) = faultless more
faultless (Err e ∷ more) = false

-- whole records, and any bytes behind them, hold what the records hold and then what those bytes hold
abbrev pub RecordsJoin : Type 0
RecordsJoin =
    (f : Format) (records behind : List ℕ) (at : ℕ)
    → faultless (contents f 0 records at) ≡ true
    → contents f 0 (records ++ behind) at ≡ contents f 0 records at ++ contents f 0 behind (at + length records)
