-- How far the first offer is above the first bid.
use Rattle.std.specs.Prelude.{ℤ, ◌-ℤ◌, Some, None, Option}
use Rattle.figures.specs.declared.figures.Top.{Top}

abbrev pub price_of : Option Top → Option ℤ
price_of None = None
price_of (Some t) = t.price

-- the first offer's price less the first bid's, where both have one
abbrev pub spread_of : Option ℤ → Option ℤ → Option ℤ
spread_of None offer = None
spread_of (Some b) None = None
spread_of (Some b) (Some o) = Some (o -ℤ b)
