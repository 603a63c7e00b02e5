-- a power of ten, and the round number before it goes more than ten times into the number
use Rattle.std.proofs.Common.{◌≡◌, ℕ, ◌-◌, ◌/◌, ◌^◌, ◌<◌, ◌⊎◌}
use Rattle.coverage.specs.Geometry.{Next}
use Rattle.coverage.proofs.geometry.step.Given as goal

abbrev pub invariant-loop-ten : goal.invariant-loop-ten
invariant-loop-ten l = (0 < l.ten) × ((e : ℕ) × (l.ten ≡ 10 ^ e)) × ((l.ten ≡ 1) ⊎ ((s : ℕ) × Next s l.ten × (10 < l.n / s)))

abbrev pub decreases-loop-ten : goal.decreases-loop-ten
decreases-loop-ten l = 2 ^ 64 - l.ten
