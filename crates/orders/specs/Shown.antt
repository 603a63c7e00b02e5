-- What a store of books shows of a slot.
use Rattle.std.specs.Prelude.{ℕ, ◌-◌, cond, List, None, Option, nat_lt}
use Rattle.std.specs.List.{slice_get}
use Rattle.message.specs.declared.values.Order.{Order}
use Rattle.store.specs.Calls.{value_at}
use Rattle.orders.specs.declared.order_store.OrderStore.{OrderStore}
use Rattle.orders.specs.declared.side.Side.{Side}
use Rattle.orders.specs.declared.side.Side.TheVariants.{Bid, Offer}
use Rattle.orders.specs.Kind.{orders}
use Rattle.orders.specs.Model.{setup_of, model_of}

abbrev pub of_side : {A : Type 0} → Side → A → A → A
of_side Bid bids offers = bids
of_side Offer bids offers = offers

-- the order at a position, from 1, where there is one
abbrev pub at_position : List Order → ℕ → Option Order
at_position xs p = cond (nat_lt 0 p) (slice_get xs (p - 1)) None

-- the orders of a side of a slot; none where there is no such slot
abbrev pub shown : OrderStore → ℕ → Side → List Order
shown s slot side = let v = value_at (orders (setup_of s)) (model_of s) slot in of_side side v.bids v.offers
