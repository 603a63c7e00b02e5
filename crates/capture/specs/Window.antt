-- What a part of a file shows: the record at its front, or that more bytes are wanted.
use Rattle.std.specs.Prelude.{◌≡◌, ℕ, ◌+◌, ◌<◌, ◌≤◌, Bool, cond, ◌&&◌, List, [], ◌∷◌, ◌++◌, length, drop, Ok, Err, Result, ◌==◌, nat_lt}
use Rattle.capture.specs.declared.fault.CaptureFault.{CaptureFault}
use Rattle.capture.specs.declared.fault.CaptureFault.TheVariants.{RecordCut}
use Rattle.capture.specs.declared.format.Format.{Format}
use Rattle.capture.specs.declared.step.Step.{Step}
use Rattle.capture.specs.declared.step.Step.TheVariants.{End, More, Taken}
use Rattle.capture.specs.Held.{Held, view}
use Rattle.capture.specs.Header.{and_then}
use Rattle.capture.specs.Records.{record_held, wanted, contents}

pub data Move : Type 0 where
  -- the file ends here
  end : Move
  -- so many bytes are wanted in the window
  more : ℕ → Move
  -- what the record holds, and how many bytes it takes
  taken : Held → ℕ → Move

abbrev pub seen : Result Step CaptureFault → Result Move CaptureFault
seen (Ok End) = Ok end
seen (Ok (More n)) = Ok (more n)
seen (Ok (Taken frame n)) = Ok (taken (view frame) n)
seen (Err e) = Err e

-- what the window shows; `last` says that the file ends with it
abbrev pub step_of : Format → List ℕ → ℕ → Bool → Result Move CaptureFault
step_of f window at last =
    cond (last && length window == 0) (Ok end)
    (and_then (wanted f window at) (λ n.
    cond (nat_lt (length window) n) (cond last (Err (RecordCut at)) (Ok (more n)))
    (Ok (taken (record_held f window) n))))

-- what the window shows is what the file holds there, whatever bytes `rest` stand behind the window:
-- nothing; a record that begins, for which at least n bytes are wanted; a record of n bytes; a fault
abbrev pub Agrees : Format → List ℕ → List ℕ → ℕ → Result Move CaptureFault → Type 0
Agrees f window rest at (Ok end) = contents f 0 (window ++ rest) at ≡ []
Agrees f window rest at (Ok (more n)) =
    (length window < n) × (n ≤ 262160) × (0 < length (window ++ rest) → length (window ++ rest) < n → contents f 0 (window ++ rest) at ≡ Err (RecordCut at) ∷ [])
Agrees f window rest at (Ok (taken held n)) =
    (n ≤ length window) × (16 ≤ n) × (contents f 0 (window ++ rest) at ≡ Ok held ∷ contents f 0 (drop n window ++ rest) (at + n))
Agrees f window rest at (Err e) = contents f 0 (window ++ rest) at ≡ Err e ∷ []
