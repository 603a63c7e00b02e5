-- Which calls are refused, and why; what an accepted one answers, as far as no value matters.
use Rattle.std.specs.Prelude.{ℕ, ◌+◌, Bool, false, cond, not, ◌&&◌, List, length, Some, None, Option, Ok, Err, Result, ◌==◌, nat_le, nat_lt}
use Rattle.packet.specs.declared.fault.FrameFault.{FrameFault}
use Rattle.packet.specs.declared.head.PacketHead.{PacketHead}
use Rattle.packet.specs.Rules.{and_then, packet_check, packet_head}
use Rattle.recovery.specs.declared.answers.Incremental.{Incremental}
use Rattle.recovery.specs.declared.answers.Incremental.TheVariants as incrementals
use Rattle.recovery.specs.declared.answers.Sign.TheVariants as signs
use Rattle.recovery.specs.declared.answers.Standing.{Standing}
use Rattle.recovery.specs.declared.fault.StreamFault.{StreamFault}
use Rattle.recovery.specs.declared.fault.StreamFault.TheVariants.{Frame, Channel, Version, Number, Late, Join, Shelf, Instrument, WatchList, OwnVersion, Slots}
use Rattle.recovery.specs.declared.marks.Mark.{Mark}
use Rattle.recovery.specs.declared.marks.Mark.TheVariants.{Stale, AsOf}
use Rattle.recovery.specs.declared.marks.Followed.{Followed}
use Rattle.recovery.specs.Shelf.{is_there}
use Rattle.recovery.specs.State.{Opening, watched, distinct, Plain}

abbrev pub refuses : Bool → StreamFault → Result (Unit {0}) StreamFault
refuses bad e = cond bad (Err e) (Ok tt)

-- 1 to 65,534
abbrev pub lawful_version : ℕ → Bool
lawful_version v = nat_lt 0 v && nat_lt v 65535

-- 1 to 64 different instruments, a lawful version, and a slot for each instrument
abbrev pub opening_check : List ℕ → ℕ → ℕ → Result (Unit {0}) StreamFault
opening_check watch version slots =
    and_then (refuses (not (nat_lt 0 (length watch) && (nat_le (length watch) 64 && distinct watch))) WatchList) (λ _.
    and_then (refuses (not (lawful_version version)) OwnVersion) (λ _.
    refuses (nat_lt slots (length watch)) Slots))

-- a shelf has 32 places of 1,400 bytes
abbrev pub shelf_check : ℕ → Result (Unit {0}) StreamFault
shelf_check room = refuses (nat_lt room 44800) (Shelf room)

abbrev pub framed : Result (Unit {0}) FrameFault → Result (Unit {0}) StreamFault
framed (Ok x) = Ok x
framed (Err e) = Err (Frame e)

-- the shelf's length, then the packet itself
abbrev pub bytes_check : Opening → ℕ → List ℕ → Result (Unit {0}) StreamFault
bytes_check o room bytes = and_then (shelf_check room) (λ _. framed (packet_check o.sheet bytes))

abbrev pub incremental_rules : Opening → ℕ → PacketHead → Result (Unit {0}) StreamFault
incremental_rules o heard h =
    and_then (refuses (not (h.channel == o.channel)) Channel) (λ _.
    and_then (refuses (not (h.version == o.version)) Version) (λ _.
    and_then (refuses (h.number == 0) Number) (λ _.
    refuses (nat_le (h.number + 32) heard) Late)))

abbrev pub incremental_check : Opening → Plain → ℕ → List ℕ → Result (Unit {0}) StreamFault
incremental_check o p room bytes = and_then (bytes_check o room bytes) (λ _. incremental_rules o p.heard (packet_head bytes))

abbrev pub incremental_answer : Opening → Plain → ℕ → List ℕ → Result Incremental StreamFault
incremental_answer o p room bytes = and_then (incremental_check o p room bytes) (λ _.
    Ok (cond (is_there (p.shelf (packet_head bytes).number)) incrementals.Repeat incrementals.Taken))

abbrev pub join_check : Plain → Result (Unit {0}) StreamFault
join_check p = refuses p.joined Join

-- the join that a call brings carries the number `j`
abbrev pub present_join : Opening → Plain → ℕ → Result (Unit {0}) StreamFault
present_join o p j = refuses (not (p.joined && j == o.own)) Join

-- a snapshot packet's version is the number of its loop
abbrev pub snapshot_rules : Opening → PacketHead → Result (Unit {0}) StreamFault
snapshot_rules o h =
    and_then (refuses (not (h.channel == o.channel)) Channel) (λ _.
    and_then (refuses (not (lawful_version h.version)) Version) (λ _.
    refuses (h.number == 0) Number))

abbrev pub snapshot_check : Opening → Plain → ℕ → ℕ → List ℕ → Result (Unit {0}) StreamFault
snapshot_check o p j room bytes =
    and_then (present_join o p j) (λ _. and_then (bytes_check o room bytes) (λ _. snapshot_rules o (packet_head bytes)))

-- packet s of the loop l has been taken already
abbrev pub again : Option Followed → ℕ → ℕ → Bool
again None l s = false
again (Some f) l s = l == f.loop_number && nat_le s f.last

-- packet s of the loop l is the one that is due
abbrev pub is_next : Option Followed → ℕ → ℕ → Bool
is_next None l s = false
is_next (Some f) l s = l == f.loop_number && s == f.last + 1

-- a book that is not stale is current at the highest packet heard, and recovering below it
abbrev pub standing : ℕ → Mark → Standing
standing heard Stale = record { sign = signs.Stale; number = 0; heard = heard }
standing heard (AsOf n) = record { sign = cond (n == heard) signs.Current signs.Recovering; number = n; heard = heard }

abbrev pub question_check : Opening → ℕ → Result (Unit {0}) StreamFault
question_check o i = refuses (not (watched o i)) Instrument
