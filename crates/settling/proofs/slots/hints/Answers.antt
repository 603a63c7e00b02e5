use Rattle.std.proofs.Common.{◌%◌, length, get_or, refl, ◌∙◌, arith, length-set}
use Rattle.settling.proofs.Bounds.{bounded, same_up}
use Rattle.settling.proofs.Finding.{near_more, near_all}
use Rattle.settling.proofs.slots.hints.Goals as goal

pub loop-k-init : goal.loop-k-init
loop-k-init c = (refl, same_up 1024 (length c.args.list.now), λ i lt. absurd (omega arith))

pub loop-k-preserved : goal.loop-k-preserved
loop-k-preserved c = let f = c.loop-k.first in let w = c.args.list.now in (
  length-set f _ _ ∙ c.loop-k.invariant.0,
  bounded f (get_or w c.loop-k.k 0 % 1024) c.min.result (length w) (omega (arith, c.loop-k.invariant.0)) (omega (arith, c.min.ensures)) c.loop-k.invariant.1,
  near_more c.loop-k.k c.min.result f w c.loop-k-test.true c.loop-k.invariant.0 (omega (arith, c.min.ensures)) (omega (arith, c.min.ensures)) c.loop-k.invariant.2,
)

pub returns : goal.returns
returns c = (near_all c.loop-k.k c.loop-k.first c.args.list.now c.loop-k-test.false c.loop-k.invariant.1 c.loop-k.invariant.2, c.loop-k.invariant.0)
