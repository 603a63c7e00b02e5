use Rattle.std.proofs.Common.{refl, arith}
use Rattle.orders.proofs.Putting.{puts}
use Rattle.orders.proofs.rows.Rows.clear.Goals as goal

pub returns : goal.returns
returns c = let s = c.args.self.now in puts s _ c.args.r 0 _ c.requires (omega arith) refl refl refl refl refl refl
