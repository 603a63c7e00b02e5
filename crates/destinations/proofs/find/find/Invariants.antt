use Rattle.std.proofs.Common.{◌≡◌, ℕ, ◌<◌, ◌≤◌, false, length, slice_index_or}
use Rattle.std.specs.Fn.{FnReturnsAt}
use Rattle.destinations.proofs.find.find.Given as goal

abbrev pub invariant-loop-item : goal.invariant-loop-item
invariant-loop-item g l =
    (length l.rest ≤ length l.items)
    × ((k : ℕ) (d : g.row.T.Denot) → k < length l.rest → slice_index_or l.items k d ≡ slice_index_or l.rest k d)
    × ((k : ℕ) (d : g.row.T.Denot) → length l.rest ≤ k → k < length l.items → FnReturnsAt g.F.Fn l.passes (slice_index_or l.items k d) false)

abbrev pub decreases-loop-item : goal.decreases-loop-item
decreases-loop-item g l = length l.rest
