use Rattle.std.proofs.Common.{◌+◌, sym, arith}
use Rattle.std.proofs.lemmas.List.{take_rest}
use Rattle.settling.proofs.Finding.{distinct_more, distinct_not, distinct-all}
use Rattle.settling.proofs.slots.all_different.Goals as goal

pub returns-then-is_some : goal.returns-then-is_some
returns-then-is_some c =
    distinct_not c.args.list.now _ c.loop-i.i _ (omega arith) (take_rest c.args.list.now (c.loop-i.i + 1)) c.place_from.ensures (sym c.if-is_some.ensures) c.loop-i.invariant

pub loop-i-preserved : goal.loop-i-preserved
loop-i-preserved c =
    distinct_more c.args.list.now _ c.loop-i.i _ (omega arith) (take_rest c.args.list.now (c.loop-i.i + 1)) c.place_from.ensures (sym c.if-is_some.ensures) c.loop-i.invariant

pub returns : goal.returns
returns c = distinct-all c.args.list.now c.loop-i.i (omega arith) c.loop-i.invariant
