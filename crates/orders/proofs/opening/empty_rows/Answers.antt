use Rattle.std.proofs.Common.{◌*◌, take, drop, refl, ap, arith}
use Rattle.orders.proofs.Fresh.{zeros}
use Rattle.orders.proofs.opening.empty_rows.Goals as goal

pub invariant_of-result : goal.invariant_of-result
invariant_of-result c = record { size = refl; few = c.requires.0; room = c.requires.1; within = λ r b. omega (arith, zeros 130 r) }

pub returns : goal.returns
returns c =
    record {
      rows = λ r. ap (λ n. take n (drop (r * c.args.depth) c.args.table.now)) (zeros 130 r);
      size = (refl, refl);
    }
