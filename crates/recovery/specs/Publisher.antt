-- The publisher of the channel, and what is taken of it as given.
use Rattle.std.specs.Prelude.{◌≡◌, ℕ, zero, suc, ◌<◌, ◌≤◌, true, cond, List, [], ◌∷◌, ◌++◌, ◌==◌}
use Rattle.message.specs.declared.values.HeaderFields.{HeaderFields}
use Rattle.message.specs.Meaning.{Msg, Part}
use Rattle.packet.specs.Rules.{messages, packet_head}
use Rattle.store.specs.Kind.{Kind}
use Rattle.recovery.specs.Reading.{Event, opens, closes, adds, changes, told}
use Rattle.recovery.specs.Books.{fit_all, after_all}
use Rattle.recovery.specs.State.{Opening, State}
use Rattle.recovery.specs.Calls.{Call, incremental, join, leave, snapshot, question, taken, step}

-- it numbers its packets 1 to `count`; `sent n` has the messages of packet n, `loops l` those of each packet of the snapshot loop l
pub record Publisher : Type 0 where
  pub count : ℕ
  pub sent : ℕ → List Msg
  pub loops : ℕ → List (List Msg)

-- x is the n-th of a row, counted from 1
abbrev pub Nth : {X : Type 0} → List X → ℕ → X → Type 0
Nth [] n x = ⊥
Nth (y ∷ ys) zero x = ⊥
Nth (y ∷ ys) (suc zero) x = x ≡ y
Nth (y ∷ ys) (suc (suc n)) x = Nth ys (suc n) x

-- what a row of messages is read for, and what a row of snapshot packets is
unfoldable pub telling : List Msg → List Event
telling [] = []
telling (m ∷ ms) = told m ++ telling ms

unfoldable pub looping : List (List Msg) → List Event
looping [] = []
looping (ms ∷ rest) = telling ms ++ looping rest

-- the pieces of the instrument i up to the next header or the end
unfoldable pub pieces_of : ℕ → List Event → List Part
pieces_of i [] = []
pieces_of i (opens j h ∷ es) = []
pieces_of i (closes ∷ es) = []
pieces_of i (adds j p ∷ es) = cond (j == i) (p ∷ pieces_of i es) (pieces_of i es)

-- a packet has the messages that the publisher sent under its number (and its loop)
abbrev pub Brings : Publisher → Opening → Call → Type 0
Brings P o (incremental room bytes) = ((packet_head bytes).number ≤ P.count) × (messages o.sheet bytes ≡ P.sent (packet_head bytes).number)
Brings P o join = Unit {0}
Brings P o (leave j) = Unit {0}
Brings P o (snapshot j room bytes) = Nth (P.loops (packet_head bytes).version) (packet_head bytes).number (messages o.sheet bytes)
Brings P o (question i) = Unit {0}

module _ {V O : Type 0} (K : Kind V O) (P : Publisher) where
  -- the publisher's book of the instrument i after packet n
  unfoldable pub value_at : ℕ → ℕ → V
  value_at i zero = K.fresh
  value_at i (suc n) = after_all K (value_at i n) (changes i (P.sent (suc n)))

  -- every header, with its instrument's pieces up to the next header or the loop's end, is an image of the book at the packet that it names
  unfoldable pub Imaged : (HeaderFields → List Part → V → Type 0) → List Event → Type 0
  Imaged Image [] = Unit {0}
  Imaged Image (opens i h ∷ es) = (h.last ≤ P.count) × Image h (pieces_of i es) (value_at i h.last) × Imaged Image es
  Imaged Image (closes ∷ es) = Imaged Image es
  Imaged Image (adds i p ∷ es) = Imaged Image es

  -- every message fits, and every snapshot is an image
  pub record Honest (Image : HeaderFields → List Part → V → Type 0) : Type 0 where
    pub fitting : (i n : ℕ) → n < P.count → fit_all K (value_at i n) (changes i (P.sent (suc n))) ≡ true
    pub imaged : (l : ℕ) → Imaged Image (looping (P.loops l))

  -- every packet that is taken on the way is the publisher's
  abbrev pub Fed : Opening → State V O → List Call → Type 0
  Fed o s [] = Unit {0}
  Fed o s (c ∷ cs) = (taken o s.plain c ≡ true → Brings P o c) × Fed o (step K o s c) cs
