use Rattle.std.proofs.Common.{◌≡◌, drop}
use Rattle.recovery.specs.State.{distinct}
use Rattle.settling.proofs.slots.all_different.Given as goal

abbrev pub invariant-loop-i : goal.invariant-loop-i
invariant-loop-i l = distinct l.list ≡ distinct (drop l.i l.list)
