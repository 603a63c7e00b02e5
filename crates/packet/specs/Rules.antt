-- The rules of a packet: which bytes are refused, and where.
use Rattle.std.specs.Prelude.{ℕ, zero, suc, ◌+◌, ◌-◌, ◌*◌, Bool, cond, not, ◌||◌, List, [], ◌∷◌, ◌++◌, length, take, drop, Some, None, Ok, Err, vec_items, Option, Result, ◌==◌, nat_lt, slice_index}
use Rattle.layout.specs.Wire.{le_at, bytes_of}
use Rattle.layout.specs.Reach.{root_reach, group_reach}
use Rattle.layout.specs.Lawful.{find}
use Rattle.layout.specs.declared.kinds.EntriesLayout.{EntriesLayout}
use Rattle.layout.specs.declared.kinds.Layout.{Layout}
use Rattle.layout.specs.declared.kinds.Layout.TheVariants.{Order, Delete, Mass, Empty, Stat, Header, Entries}
use Rattle.layout.specs.declared.sheet.Sheet.{Sheet}
use Rattle.packet.specs.declared.fault.FrameFault.{FrameFault}
use Rattle.packet.specs.declared.fault.FrameFault.TheVariants as faults
use Rattle.packet.specs.declared.head.PacketHead.{PacketHead}
use Rattle.packet.specs.declared.head.MessageHead.{MessageHead}
use Rattle.message.specs.Meaning.{Msg}

-- what comes next, where nothing was refused
abbrev pub and_then : {A B E : Type 0} → Result A E → (A → Result B E) → Result B E
and_then (Ok x) f = f x
and_then (Err e) f = Err e

abbrev pub refuse : Bool → FrameFault → Result (Unit {0}) FrameFault
refuse bad e = cond bad (Err e) (Ok tt)

-- 16 to 1,400 bytes, and a packet has a message
abbrev pub size_check : ℕ → Result (Unit {0}) FrameFault
size_check n = and_then (refuse (nat_lt n 16 || nat_lt 1400 n) faults.Size) (λ _. refuse (n == 16) faults.Empty)

-- the channel is byte 0, the version bytes 2 and 3, the number bytes 4 to 7
abbrev pub packet_head : List ℕ → PacketHead
packet_head bs = record { channel = slice_index bs 0; version = le_at bs 2 2; number = le_at bs 4 4 }

-- of a message's header: its length, its root block's length and its template
abbrev pub message_head : List ℕ → MessageHead
message_head bs = record { length = le_at bs 0 2; block = le_at bs 4 2; template = le_at bs 6 2 }

-- a message's header: 12 bytes, a length of at least 12 that the packet has, the encoding EB50 and the schema 2
abbrev pub head_check : List ℕ → ℕ → Result (Unit {0}) FrameFault
head_check bs at =
    and_then (refuse (nat_lt (length bs) 12) (faults.Torn at)) (λ _.
    and_then (refuse (nat_lt (le_at bs 0 2) 12 || nat_lt (length bs) (le_at bs 0 2)) (faults.Length at)) (λ _.
    and_then (refuse (not (le_at bs 2 2 == 0xEB50)) (faults.Encoding (at + 2))) (λ _.
    refuse (not (le_at bs 8 2 == 2)) (faults.Schema (at + 8)))))

-- the group behind a root block is past the message, or its entries are short of a field; `g` is where it starts
abbrev pub group_bad : EntriesLayout → List ℕ → ℕ → Bool
group_bad l m g =
    nat_lt (length m) (g + (2 + bytes_of l.count))
    || (nat_lt (le_at m g 2) (group_reach l) || nat_lt (length m) (g + (2 + bytes_of l.count) + le_at m g 2 * le_at m (g + 2) (bytes_of l.count)))

abbrev pub group_check : Layout → List ℕ → ℕ → ℕ → Result (Unit {0}) FrameFault
group_check (Order l) m g at = Ok tt
group_check (Delete l) m g at = Ok tt
group_check (Mass l) m g at = Ok tt
group_check (Empty l) m g at = Ok tt
group_check (Stat l) m g at = Ok tt
group_check (Header l) m g at = Ok tt
group_check (Entries l) m g at = refuse (group_bad l m g) (faults.Group (at + g))

-- of a listed template: the root block lies in the message and holds every field, and so does the group behind it
abbrev pub layout_check : Option Layout → List ℕ → ℕ → ℕ → Result (Unit {0}) FrameFault
layout_check None m block at = Ok tt
layout_check (Some l) m block at =
    and_then (refuse (nat_lt (length m) (12 + block) || nat_lt block (root_reach l)) (faults.Block (at + 4))) (λ _. group_check l m (12 + block) at)

-- the message at the front of the bytes `bs`, which start at `at` of the packet; its length
abbrev pub message_check : Sheet → List ℕ → ℕ → Result ℕ FrameFault
message_check s bs at =
    and_then (head_check bs at) (λ _.
    and_then (layout_check (find (vec_items s.templates) (le_at bs 6 2)) (take (le_at bs 0 2) bs) (le_at bs 4 2) at) (λ _. Ok (le_at bs 0 2)))

-- messages one behind the other, from `skip` bytes further on
unfoldable pub walk_check : Sheet → ℕ → List ℕ → ℕ → Result (Unit {0}) FrameFault
walk_check s skip [] at = Ok tt
walk_check s (suc k) (b ∷ bs) at = walk_check s k bs at
walk_check s zero (b ∷ bs) at = and_then (message_check s (b ∷ bs) at) (λ n. walk_check s (n - 1) bs (at + n))

-- the size first, then message by message
abbrev pub packet_check : Sheet → List ℕ → Result (Unit {0}) FrameFault
packet_check s bs = and_then (size_check (length bs)) (λ _. walk_check s 0 (drop 16 bs) 16)

-- the message at the front of the bytes
abbrev pub msg_at : Sheet → List ℕ → Msg
msg_at s bs = record { layout = find (vec_items s.templates) (le_at bs 6 2); bytes = take (le_at bs 0 2) bs }

-- the messages of bytes that keep the rules, from `skip` bytes further on
unfoldable pub messages_from : Sheet → ℕ → List ℕ → List Msg
messages_from s skip [] = []
messages_from s (suc k) (b ∷ bs) = messages_from s k bs
messages_from s zero (b ∷ bs) = msg_at s (b ∷ bs) ∷ messages_from s (le_at (b ∷ bs) 0 2 - 1) bs

-- the messages of a packet that keeps the rules
abbrev pub messages : Sheet → List ℕ → List Msg
messages s bs = messages_from s 0 (drop 16 bs)

-- the bytes of messages, one behind the other
abbrev pub joined : List Msg → List ℕ
joined [] = []
joined (m ∷ ms) = m.bytes ++ joined ms
