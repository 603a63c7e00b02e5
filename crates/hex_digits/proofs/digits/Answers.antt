use Rattle.std.proofs.Common.{vec_items}
use Rattle.hex_digits.specs.Hex.{digits_of}
use Rattle.hex_digits.proofs.Pairs.{start, step}
use Rattle.hex_digits.proofs.digits.Goals as goal

pub loop-left-init : goal.loop-left-init
loop-left-init c = start (vec_items c.args.room.now) (digits_of c.args.word.now) c.requires

pub loop-left-preserved : goal.loop-left-preserved
loop-left-preserved c =
    step (vec_items c.loop-left.room) _ c.loop-left.left.now c.in-Some.byte _ c.in-len2-up.len_at_least c.in-Some.ensures c.in_ok-push.ensures.items c.loop-left.invariant
