-- Which messages fit a side with room for d orders, and the side after each.
use Rattle.std.specs.Prelude.{ℕ, ◌+◌, ◌-◌, Bool, cond, ◌&&◌, ◌||◌, List, take, drop, ◌==◌, nat_le, nat_lt}
use Rattle.layout.specs.declared.kinds.Actions.{Actions}
use Rattle.message.specs.declared.values.Order.{Order}
use Rattle.message.specs.declared.values.OrderFields.{OrderFields}
use Rattle.message.specs.declared.values.MassFields.{MassFields}
use Rattle.positions.specs.Positions.{inserted_at, changed_at, cut_out}

-- an order stands at position p of n
abbrev pub taken : ℕ → ℕ → Bool
taken n p = nat_le 1 p && nat_le p n

-- a new order stands at p, at most right behind the last of n
abbrev pub free : ℕ → ℕ → ℕ → Bool
free d n p = nat_le 1 p && (nat_le p (n + 1) && nat_lt n d)

-- an `order` message carries new or change
abbrev pub fits_order : Actions → ℕ → ℕ → OrderFields → Bool
fits_order a d n f = cond (f.action == a.new) (free d n f.position) (f.action == a.change && taken n f.position)

abbrev pub after_order : Actions → List Order → OrderFields → List Order
after_order a xs f = cond (f.action == a.new) (inserted_at xs f.position f.order) (changed_at xs f.position f.order)

-- a `mass` message carries a cut
abbrev pub fits_mass : Actions → ℕ → MassFields → Bool
fits_mass a n f = (f.action == a.topcut || f.action == a.bottomcut) && taken n f.position

-- the top cut takes positions 1 to p away, the bottom cut p to the last
abbrev pub after_mass : Actions → List Order → MassFields → List Order
after_mass a xs f = cond (f.action == a.topcut) (drop f.position xs) (take (f.position - 1) xs)

abbrev pub after_delete : List Order → ℕ → List Order
after_delete xs p = cut_out xs p p
