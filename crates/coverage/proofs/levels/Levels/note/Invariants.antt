-- what was noted is told by wider columns, which are no wider than the highest number asks for
use Rattle.std.proofs.Common.{◌≡◌, ◌/◌, ◌≤◌, ◌⊎◌, List}
use Rattle.coverage.specs.Notes.{Note}
use Rattle.coverage.specs.Told.{Told}
use Rattle.coverage.proofs.levels.Levels.note.Given as goal

abbrev pub invariant-loop-self : goal.invariant-loop-self
invariant-loop-self l =
    ((notes : List Note) → Told l.initial.self notes → Told l.self notes)
    × ((l.self.width ≡ l.initial.self.width) ⊎ (512 ≤ l.high / l.self.width))

abbrev pub decreases-loop-self : goal.decreases-loop-self
decreases-loop-self l = l.high / l.self.width
