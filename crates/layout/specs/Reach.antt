-- How far a root block and an entry must reach for the fields of a layout.
use Rattle.std.specs.Prelude.{ℕ, ◌+◌, max}
use Rattle.layout.specs.Wire.{bytes_of}
use Rattle.layout.specs.declared.kinds.Spot.{Spot}
use Rattle.layout.specs.declared.kinds.OrderLayout.{OrderLayout}
use Rattle.layout.specs.declared.kinds.EntriesLayout.{EntriesLayout}
use Rattle.layout.specs.declared.kinds.Layout.{Layout}
use Rattle.layout.specs.declared.kinds.Layout.TheVariants.{Order, Delete, Mass, Empty, Stat, Header, Entries}

abbrev pub reach : Spot → ℕ
reach s = s.offset + bytes_of s.width

abbrev pub order_reach : OrderLayout → ℕ
order_reach l = max (max (max (reach l.security) (reach l.action)) (max (reach l.side) (reach l.position)))
    (max (max (reach l.price) (reach l.size)) (max (reach l.oid) (reach l.firm)))

abbrev pub group_reach : EntriesLayout → ℕ
group_reach l = max (max (reach l.side) (reach l.position))
    (max (max (reach l.price) (reach l.size)) (max (reach l.oid) (reach l.firm)))

-- the least length of the root block
abbrev pub root_reach : Layout → ℕ
root_reach (Order l) = order_reach l
root_reach (Delete l) = max (reach l.security) (max (reach l.side) (reach l.position))
root_reach (Mass l) = max (max (reach l.security) (reach l.action)) (max (reach l.side) (reach l.position))
root_reach (Empty l) = reach l.security
root_reach (Stat l) = max (reach l.security) (reach l.value)
root_reach (Header l) = max (max (reach l.security) (reach l.last)) (max (reach l.bids) (max (reach l.offers) (reach l.stats)))
root_reach (Entries l) = reach l.security

-- the least length of an entry of the group, 0 where there is none
abbrev pub entry_reach : Layout → ℕ
entry_reach (Order l) = 0
entry_reach (Delete l) = 0
entry_reach (Mass l) = 0
entry_reach (Empty l) = 0
entry_reach (Stat l) = 0
entry_reach (Header l) = 0
entry_reach (Entries l) = group_reach l
