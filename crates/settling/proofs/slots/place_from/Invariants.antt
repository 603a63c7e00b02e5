use Rattle.std.proofs.Common.{◌≤◌}
use Rattle.recovery.specs.State.{slot_in}
use Rattle.settling.proofs.slots.place_from.Given as goal

abbrev pub invariant-loop-i : goal.invariant-loop-i
invariant-loop-i l = l.i ≤ slot_in l.list l.id
