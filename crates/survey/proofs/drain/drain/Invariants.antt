use Rattle.std.proofs.Common.{◌≡◌, ℕ, ◌+◌, ◌-◌, ◌^◌, ◌<◌, ◌≤◌, true, List, [], length}
use Rattle.capture.specs.Tally.{tallied}
use Rattle.reading.specs.Window.{ahead}
use Rattle.survey.proofs.drain.drain.Given as goal

abbrev pub invariant-loop-frame : goal.invariant-loop-frame
invariant-loop-frame l =
    (l.window.part ≡ l.initial.window.part) × (l.initial.window.at ≤ l.window.at)
    × (l.initial.window.part.offset + length l.initial.window.part.bytes.now < 2 ^ 64 → (rest : List ℕ) → (l.initial.window.part.last ≡ true → rest ≡ [])
    → tallied l.initial.table.tally (ahead l.initial.window rest) ≡ tallied l.table.tally (ahead l.window rest))

abbrev pub decreases-loop-frame : goal.decreases-loop-frame
decreases-loop-frame l = length l.window.part.bytes.now - l.window.at
