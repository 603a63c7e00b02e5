use Rattle.std.proofs.Common.{arith}
use Rattle.settling.proofs.Finding.{slot_here, slot_later, slot_none}
use Rattle.settling.proofs.slots.place_from.Goals as goal

pub returns-then-list-i : goal.returns-then-list-i
returns-then-list-i c = slot_here c.args.list.now c.args.id c.loop-i.i (omega arith) (omega arith) c.loop-i.invariant

pub loop-i-preserved : goal.loop-i-preserved
loop-i-preserved c = slot_later c.args.list.now c.args.id c.loop-i.i (omega arith) (λ e. omega arith) c.loop-i.invariant

pub returns : goal.returns
returns c = slot_none c.args.list.now c.args.id (omega arith)
