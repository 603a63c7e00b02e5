use Rattle.std.proofs.Common.{length-take, length-drop, arith}
use Rattle.coverage.proofs.Fills.{halved, filled_to}
use Rattle.coverage.proofs.cells.halve.Goals as goal

pub returns : goal.returns
returns c =
    halved c.args.cells.now c.loop-k.cells c.fill.new.self _ (omega arith) (filled_to _ _ _ _ _ _ (omega arith) c.loop-k.invariant)
    (c.fill.ensures.after (λ y e. e)) (simp (length-take, length-drop) (omega arith))
