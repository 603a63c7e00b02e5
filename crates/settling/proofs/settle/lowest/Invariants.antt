use Rattle.std.proofs.Common.{ℕ, ◌<◌, ◌≤◌, get_or}
use Rattle.recovery.specs.declared.marks.Mark.TheVariants.{Stale}
use Rattle.settling.specs.Each.{Low}
use Rattle.settling.proofs.settle.lowest.Given as goal

abbrev pub invariant-loop-mark : goal.invariant-loop-mark
invariant-loop-mark l = (l.low ≤ l.heard) × ((q : ℕ) → q < l.mark-index → Low l.low (get_or l.watched q Stale))
