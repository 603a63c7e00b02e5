-- The shelf: 32 places of 1,400 bytes, and what lies there for each packet number.
use Rattle.std.specs.Prelude.{ℕ, ◌+◌, ◌*◌, ◌%◌, Bool, true, false, cond, ◌&&◌, List, ◌++◌, length, take, drop, is_ok, ◌==◌, nat_le, nat_lt, slice_index}
use Rattle.layout.specs.declared.sheet.Sheet.{Sheet}
use Rattle.message.specs.Meaning.{Msg}
use Rattle.packet.specs.Rules.{packet_check, messages}

-- what is found for a number: no packet, bytes that keep the rules no more, or a packet's messages
pub data Found : Type 0 where
  absent : Found
  spoilt : Found
  intact : List Msg → Found

abbrev pub upon : {A : Type 0} → Found → A → A → (List Msg → A) → A
upon absent a b f = a
upon spoilt a b f = b
upon (intact ms) a b f = f ms

abbrev pub is_there : Found → Bool
is_there f = upon f false true (λ _. true)

-- the bytes of a packet, read by the sheet
abbrev pub reading : Sheet → List ℕ → Found
reading sheet bytes = cond (is_ok (packet_check sheet bytes)) (intact (messages sheet bytes)) spoilt

-- With `numbers` and `lengths` the number and the length of the packet at each place: whether packet k is shelved,
-- where a number that is 32 or more below the highest heard is dropped
abbrev pub shelved : ℕ → List ℕ → ℕ → Bool
shelved heard numbers k = nat_lt 0 k && (slice_index numbers (k % 32) == k && nat_lt heard (k + 32))

abbrev pub part_of : List ℕ → List ℕ → ℕ → List ℕ
part_of lengths bytes k = take (slice_index lengths (k % 32)) (drop (k % 32 * 1400) bytes)

-- what lies on the shelf, number by number
abbrev pub shelf_of : Sheet → ℕ → List ℕ → List ℕ → List ℕ → ℕ → Found
shelf_of sheet heard numbers lengths bytes k = cond (shelved heard numbers k) (reading sheet (part_of lengths bytes k)) absent

-- old numbers drop
abbrev pub kept : ℕ → (ℕ → Found) → ℕ → Found
kept heard shelf k = cond (nat_le (k + 32) heard) absent (shelf k)

-- packet q lies there too, and old numbers drop
abbrev pub laid : ℕ → ℕ → Found → (ℕ → Found) → ℕ → Found
laid heard q x shelf k = cond (k == q) x (kept heard shelf k)

-- the shelf's bytes with packet q at its place, and no other byte changed
abbrev pub written : List ℕ → ℕ → List ℕ → List ℕ
written shelf q bytes = take (q % 32 * 1400) shelf ++ (bytes ++ drop (length bytes) (drop (q % 32 * 1400) shelf))
