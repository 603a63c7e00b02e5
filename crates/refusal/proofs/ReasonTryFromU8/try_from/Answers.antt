use Rattle.std.proofs.Common.{◌-◌, refl, arith}
use Rattle.refusal.specs.declared.TheConstants.Reason.{ALL}
use Rattle.refusal.specs.declared.Reason.TheVariants.{Size}
use Rattle.refusal.proofs.Numbers.{number_at}
use Rattle.refusal.proofs.ReasonTryFromU8.try_from.Goals as goal

pub returns-in-1-to-20 : goal.returns-in-1-to-20
returns-in-1-to-20 c = number_at 1 21 ALL (c.from.result - 1) Size c.args.number (omega arith) (omega arith) refl
