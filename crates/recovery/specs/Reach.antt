-- Reach: how far the book of an instrument must have come, worked out from the opening and the arguments of the calls alone.
use Rattle.std.specs.Prelude.{ℕ, ◌+◌, max, Bool, true, false, cond, not, ◌&&◌, ◌||◌, List, [], ◌∷◌, is_ok, Some, None, ◌==◌, nat_le, nat_lt}
use Rattle.message.specs.declared.values.HeaderFields.{HeaderFields}
use Rattle.message.specs.Meaning.{Part}
use Rattle.packet.specs.Rules.{packet_check, packet_head, messages}
use Rattle.store.specs.Kind.{Kind}
use Rattle.recovery.specs.Reading.{Event, opens, closes, adds}
use Rattle.recovery.specs.State.{Opening, watched}
use Rattle.recovery.specs.Calls.{Call, incremental, join, leave, snapshot, question}
use Rattle.recovery.specs.Publisher.{telling}
use Rattle.recovery.specs.Extents.{Extent, nowhere, upto, Parts, Reach, untouched, moved, tuned, with_parts, seen, due, behind, of_parts}

-- a packet of the channel that keeps the rules, with room on the shelf
abbrev pub sound : Opening → ℕ → List ℕ → Bool
sound o room bytes = nat_le 44800 room && (is_ok (packet_check o.sheet bytes) && (packet_head bytes).channel == o.channel)

-- a packet that is neither refused nor there
abbrev pub takes_packet : Opening → Reach → ℕ → List ℕ → Bool
takes_packet o r room bytes =
    sound o room bytes && ((packet_head bytes).version == o.version && (nat_lt 0 (packet_head bytes).number
    && (nat_lt r.heard ((packet_head bytes).number + 32) && not (r.there (packet_head bytes).number))))

abbrev pub takes_snapshot : Opening → Reach → ℕ → ℕ → List ℕ → Bool
takes_snapshot o r j room bytes =
    (r.joined && j == o.own) && (sound o room bytes && ((nat_le 1 (packet_head bytes).version && nat_le (packet_head bytes).version 65534)
    && (nat_lt 0 (packet_head bytes).number && not (seen r.place (packet_head bytes).version (packet_head bytes).number))))

module _ {V O : Type 0} (K : Kind V O) (o : Opening) where
  -- what a header and pieces leave owed
  abbrev pub left : HeaderFields → List Part → O
  left h [] = K.owes h
  left h (p ∷ ps) = K.less (left h ps) p

  -- a snapshot that is not too old, and ahead of its instrument
  abbrev pub news : Parts → Reach → Bool
  news g r = nat_lt r.heard (g.header.last + 33) && behind (r.extent g.of) g.header.last

  abbrev pub caught : Parts → Reach → Reach
  caught g r = moved (max r.heard g.header.last) r.there (λ i. cond (i == g.of) (upto g.header.last) (r.extent i)) r

  abbrev pub judged : Parts → Reach → Reach
  judged g r = cond (K.whole (left g.header g.pieces)) (cond (news g r) (caught g (with_parts None r)) (with_parts None r)) (with_parts (Some g) r)

  abbrev pub tell : Event → Reach → Reach
  tell (opens i h) r = cond (watched o i) (judged (record { of = i; header = h; pieces = [] }) r) (with_parts None r)
  tell closes r = with_parts None r
  tell (adds i p) r = of_parts r.parts r (λ g. cond (i == g.of) (judged (record { of = g.of; header = g.header; pieces = p ∷ g.pieces }) r) r)

  unfoldable pub tell_all : List Event → Reach → Reach
  tell_all [] r = r
  tell_all (e ∷ es) r = tell_all es (tell e r)

  -- where the reading of a snapshot packet starts
  abbrev pub placed : List ℕ → Reach → Reach
  placed bytes r = tuned r.joined (Some (record { loop = (packet_head bytes).version; last = (packet_head bytes).number }))
      (cond (due r.place (packet_head bytes).version (packet_head bytes).number) r.parts None) r

  abbrev pub reach_step : Reach → Call → Reach
  reach_step r (incremental room bytes) = cond (takes_packet o r room bytes)
      (moved (max r.heard (packet_head bytes).number) (λ k. (k == (packet_head bytes).number) || r.there k) r.extent r) r
  reach_step r join = cond r.joined r (tuned true r.place r.parts r)
  reach_step r (leave j) = cond (r.joined && j == o.own) (tuned false None None r) r
  reach_step r (snapshot j room bytes) = cond (takes_snapshot o r j room bytes) (tell_all (telling (messages o.sheet bytes)) (placed bytes r)) r
  reach_step r (question i) = r

  abbrev pub reach_run : Reach → List Call → Reach
  reach_run r [] = r
  reach_run r (c ∷ cs) = reach_run (reach_step r c) cs

-- the reach of an instrument: its extent, with whether that is all that was heard
pub record Reached : Type 0 where
  pub extent : Extent
  pub all : Bool

abbrev pub at_heard : ℕ → Extent → Bool
at_heard heard nowhere = false
at_heard heard (upto n) = n == heard

abbrev pub reach_of : {V O : Type 0} → Kind V O → Opening → List Call → ℕ → Reached
reach_of K o cs i =
    let r = reach_run K o (untouched o) cs in
    record { extent = r.extent i; all = at_heard r.heard (r.extent i) }
