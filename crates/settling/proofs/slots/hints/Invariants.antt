use Rattle.std.proofs.Common.{◌≡◌, ◌≤◌, ℕ, length, get_or}
use Rattle.settling.proofs.Finding.{NearUpto}
use Rattle.settling.proofs.slots.hints.Given as goal

abbrev pub invariant-loop-k : goal.invariant-loop-k
invariant-loop-k l = (length l.first ≡ 1024) × ((j : ℕ) → get_or l.first j 0 ≤ length l.list) × NearUpto l.k l.first l.list
