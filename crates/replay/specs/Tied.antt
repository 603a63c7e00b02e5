-- How the join that is held goes with the receiver.
use Rattle.std.specs.Prelude.{ℕ, Bool, not, ◌&&◌, Some, None, Option, ◌==◌}
use Rattle.receiver.specs.declared.join.Join.{Join}

-- a join is held exactly while the receiver is joined, and it carries the receiver's number
abbrev pub tied : Bool → ℕ → Option Join → Bool
tied joined own None = not joined
tied joined own (Some j) = joined && j.own == own
