use Rattle.std.proofs.Common.{refl}
use Rattle.settling.proofs.Bounds.{zeros}
use Rattle.settling.proofs.places.Places.empty.Goals as goal

pub invariant_of-result : goal.invariant_of-result
invariant_of-result c = record { places = refl; low = λ p. zeros 32 p 0; fit = λ p. zeros 32 p 1400 }
