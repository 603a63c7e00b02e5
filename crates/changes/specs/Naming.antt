-- Which watched instruments the messages of a packet name.
use Rattle.std.specs.Prelude.{ℕ, max, List, [], ◌∷◌, Some, None, Option, slice_index, slice_set}
use Rattle.message.specs.declared.values.OrderFields.{OrderFields}
use Rattle.message.specs.declared.values.HeaderFields.{HeaderFields}
use Rattle.layout.specs.declared.kinds.Layout.{Layout}
use Rattle.layout.specs.declared.kinds.Layout.TheVariants.{Order, Delete, Mass, Empty, Stat, Header, Entries}
use Rattle.message.specs.Meaning.{Msg, security, order_fields, header_fields}
use Rattle.settling.specs.Slots.{slot_named}

-- the place that a message says a side has: the position of an order, the larger count of a header
abbrev pub of_order : Option OrderFields → ℕ
of_order None = 0
of_order (Some f) = f.position

abbrev pub of_header : Option HeaderFields → ℕ
of_header None = 0
of_header (Some f) = max f.bids f.offers

abbrev pub depth_in : Option Layout → List ℕ → ℕ
depth_in None m = 0
depth_in (Some (Order l)) m = of_order (order_fields l m)
depth_in (Some (Delete l)) m = 0
depth_in (Some (Mass l)) m = 0
depth_in (Some (Empty l)) m = 0
depth_in (Some (Stat l)) m = 0
depth_in (Some (Header l)) m = of_header (header_fields l m)
depth_in (Some (Entries l)) m = 0

abbrev pub latest_at : List ℕ → Option ℕ → ℕ → List ℕ
latest_at latest None number = latest
latest_at latest (Some slot) number = slice_set latest slot (max (slice_index latest slot) number)

abbrev pub deepest_at : ℕ → Option ℕ → ℕ → ℕ
deepest_at deepest None depth = deepest
deepest_at deepest (Some slot) depth = max deepest depth

-- the highest numbers by slot behind the messages of a packet with that number
abbrev pub latest_after : List ℕ → List ℕ → List Msg → ℕ → List ℕ
latest_after watch latest [] number = latest
latest_after watch latest (m ∷ more) number = latest_after watch (latest_at latest (slot_named watch (security m)) number) more number

abbrev pub deepest_after : List ℕ → ℕ → List Msg → ℕ
deepest_after watch deepest [] = deepest
deepest_after watch deepest (m ∷ more) = deepest_after watch (deepest_at deepest (slot_named watch (security m)) (depth_in m.layout m.bytes)) more
