use Rattle.std.proofs.Common.{arith}
use Rattle.coverage.proofs.Rounds.{scaled_below}
use Rattle.coverage.proofs.geometry.scaled.Goals as goal

pub overflow_cast-result : goal.overflow_cast-result
overflow_cast-result c = omega (arith, scaled_below c.from.result c.from-3.result c.from-2.result (omega arith))
