-- When books can be kept in a table, and for how many slots there is room.
use Rattle.std.specs.Prelude.{ℕ, ◌-◌, ◌*◌, ◌/◌, min, Bool, ◌&&◌, nat_le}

-- 1 to 1,024 orders a side, and room for two books at least
abbrev pub may_open : ℕ → ℕ → Bool
may_open depth room = nat_le 1 depth && (nat_le depth 1024 && nat_le (4 * depth) room)

-- as many slots as fit beside the staged book, 64 at most
abbrev pub slots_in : ℕ → ℕ → ℕ
slots_in depth room = min 64 (room / (2 * depth) - 1)
