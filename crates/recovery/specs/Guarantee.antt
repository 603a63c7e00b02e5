-- The recovery guarantee, over every run from an opening on, refused calls included.
use Rattle.std.specs.Prelude.{◌≡◌, ℕ, ◌<◌, ◌≤◌, true, ◌⊎◌, ◌↔◌, List, [], ◌∷◌, ◌++◌, length, is_ok, ◌≢◌}
use Rattle.message.specs.declared.values.HeaderFields.{HeaderFields}
use Rattle.message.specs.Meaning.{Part}
use Rattle.packet.specs.Rules.{packet_head}
use Rattle.store.specs.Kind.{Kind, Model}
use Rattle.recovery.specs.declared.answers.Sign.TheVariants.{Stale, Current}
use Rattle.recovery.specs.Shelf.{is_there}
use Rattle.recovery.specs.State.{Opening, watched, State, opened}
use Rattle.recovery.specs.Answers.{opening_check}
use Rattle.recovery.specs.Log.{Adoption}
use Rattle.recovery.specs.Steps.{adoptions}
use Rattle.recovery.specs.Calls.{Call, incremental, join, leave, snapshot, question, taken, step, after, shown}
use Rattle.recovery.specs.Publisher.{Publisher, value_at, Honest, Fed}
use Rattle.recovery.specs.Reach.{reach_of}

abbrev pub Logged : List Adoption → ℕ → ℕ → Type 0
Logged [] i n = ⊥
Logged (a ∷ log) i n = ((a.security ≡ i) × (a.number ≡ n)) ⊎ Logged log i n

-- the call brings packet k
abbrev pub IsPacket : Call → ℕ → Type 0
IsPacket (incremental room bytes) k = (packet_head bytes).number ≡ k
IsPacket join k = ⊥
IsPacket (leave j) k = ⊥
IsPacket (snapshot j room bytes) k = ⊥
IsPacket (question i) k = ⊥

module _ {V O : Type 0} (K : Kind V O) (P : Publisher) where
  -- the receiver was opened over a store with slots enough, and every packet that it took was the publisher's
  abbrev pub Served : Opening → Model V O → List Call → Type 0
  Served o store cs = (is_ok (opening_check o.watch o.version (length store.slots)) ≡ true) × Fed K P o (opened K o store) cs

  -- (a) A book that is not stale is the publisher's book of that instrument at the packet number that it shows.
  abbrev pub TrueBooks : Type 0
  TrueBooks = (o : Opening) (store : Model V O) (cs : List Call) → Served o store cs → (i : ℕ) → watched o i ≡ true
      → ((shown o (after K o store cs) i).sign ≢ Stale)
      → (shown o (after K o store cs) i).book ≡ value_at K P i (shown o (after K o store cs) i).number

  -- (b) Two receivers that watch an instrument show the same of it exactly when their reach for it is equal, whatever each was fed.
  abbrev pub SameReach : Type 0
  SameReach = (o o' : Opening) (store store' : Model V O) (cs cs' : List Call) → Served o store cs → Served o' store' cs'
      → (i : ℕ) → watched o i ≡ true → watched o' i ≡ true
      → (shown o (after K o store cs) i ≡ shown o' (after K o' store' cs') i) ↔ (reach_of K o cs i ≡ reach_of K o' cs' i)

  -- the call adopts a snapshot of packet n for the instrument i
  abbrev pub AdoptsBy : Opening → State V O → Call → ℕ → ℕ → Type 0
  AdoptsBy o s (incremental room bytes) i n = ⊥
  AdoptsBy o s join i n = ⊥
  AdoptsBy o s (leave j) i n = ⊥
  AdoptsBy o s (snapshot j room bytes) i n = Logged (adoptions K o bytes s) i n
  AdoptsBy o s (question j) i n = ⊥

  abbrev pub Adopts : Opening → State V O → Call → ℕ → ℕ → Type 0
  Adopts o s c i n = (taken o s.plain c ≡ true) × AdoptsBy o s c i n

  -- packet k is taken on the way
  abbrev pub TakenIn : Opening → State V O → List Call → ℕ → Type 0
  TakenIn o s [] k = ⊥
  TakenIn o s (c ∷ cs) k = ((taken o s.plain c ≡ true) × IsPacket c k) ⊎ TakenIn o (step K o s c) cs k

  -- (c) Once a snapshot of packet n was adopted for an instrument, and every packet from n + 1 to the highest heard was on the
  -- shelf then or was taken since, its book is current.
  abbrev pub ComesCurrent : Type 0
  ComesCurrent = (o : Opening) (store : Model V O) (cs : List Call) (c : Call) (since : List Call) → Served o store (cs ++ (c ∷ since))
      → (i n : ℕ) → watched o i ≡ true → Adopts o (after K o store cs) c i n
      → ((k : ℕ) → n < k → k ≤ (after K o store (cs ++ (c ∷ since))).plain.heard
      → (is_there ((after K o store cs).plain.shelf k) ≡ true) ⊎ TakenIn o (step K o (after K o store cs) c) since k)
      → (shown o (after K o store (cs ++ (c ∷ since))) i).sign ≡ Current

-- all three, for every honest publisher
abbrev pub Recovery : {V O : Type 0} → Kind V O → (HeaderFields → List Part → V → Type 0) → Type 0
Recovery K Image = (P : Publisher) → Honest K P Image → TrueBooks K P × SameReach K P × ComesCurrent K P
