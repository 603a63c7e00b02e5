-- A publisher with three packets and a snapshot loop of two, byte by byte, and calls that bring a book to it.
use Rattle.std.specs.Prelude.{ℕ, cond, List, [], ◌∷◌, ◌++◌, None, ◌==◌}
use Rattle.layout.specs.declared.sheet.Sheet.{Sheet}
use Rattle.packet.specs.Rules.{messages}
use Rattle.store.specs.Kind.{Model}
use Rattle.recovery.specs.State.{Opening}
use Rattle.recovery.specs.Calls.{Call, incremental, join, leave, snapshot}
use Rattle.recovery.specs.Publisher.{Publisher}
use Rattle.recovery.specs.Latest.{Latest}

-- a statistic of the instrument 5, and a snapshot's header of the instrument 5 at packet n with one statistic to come
abbrev pub stat_bytes : ℕ → List ℕ
stat_bytes x = 14 ∷ 0 ∷ 0x50 ∷ 0xEB ∷ 2 ∷ 0 ∷ 1 ∷ 0 ∷ 2 ∷ 0 ∷ 0 ∷ 0 ∷ 5 ∷ x ∷ []

abbrev pub header_bytes : ℕ → List ℕ
header_bytes n = 17 ∷ 0 ∷ 0x50 ∷ 0xEB ∷ 5 ∷ 0 ∷ 2 ∷ 0 ∷ 2 ∷ 0 ∷ 0 ∷ 0 ∷ 5 ∷ n ∷ 0 ∷ 0 ∷ 1 ∷ []

-- a packet of channel 7
abbrev pub packet_bytes : ℕ → ℕ → List ℕ → List ℕ
packet_bytes version n message = (7 ∷ 0 ∷ version ∷ 0 ∷ n ∷ 0 ∷ 0 ∷ 0 ∷ 0 ∷ 0 ∷ 0 ∷ 0 ∷ 0 ∷ 0 ∷ 0 ∷ 0 ∷ []) ++ message

-- the packets 1 to 3 say 8, 9 and 4
abbrev pub said : ℕ → List ℕ
said n = packet_bytes 1 n (stat_bytes (cond (n == 1) 8 (cond (n == 2) 9 4)))

-- the snapshot loop 6: a header at packet 2 in its first packet, and the number 9 in its second
abbrev pub shot : ℕ → List ℕ
shot n = packet_bytes 6 n (cond (n == 1) (header_bytes 2) (stat_bytes 9))

module _ (sheet : Sheet) where
  abbrev pub publisher : Publisher
  publisher = record {
    count = 3;
    sent = λ n. messages sheet (said n);
    loops = λ l. cond (l == 6) (messages sheet (shot 1) ∷ messages sheet (shot 2) ∷ []) [];
  }

  abbrev pub opening : Opening
  opening = record { channel = 7; version = 1; own = 11; watch = 5 ∷ []; sheet = sheet }

-- a store of one slot
abbrev pub one_slot : Model Latest ℕ
one_slot = record { slots = None ∷ []; staged = None; owed = 0 }

-- packet 3 before all others, then the loop
abbrev pub by_loop : List Call
by_loop = incremental 44800 (said 3) ∷ join ∷ snapshot 11 44800 (shot 1) ∷ snapshot 11 44800 (shot 2) ∷ leave 11 ∷ []

-- packet 2, and then packet 1
abbrev pub swapped : List Call
swapped = incremental 44800 (said 2) ∷ incremental 44800 (said 1) ∷ []
