-- The guarantee at a question: what it says of the state that a run has led to.
use Rattle.std.specs.Prelude.{◌≡◌, ℕ, ◌<◌, ◌≤◌, true, ◌⊎◌, ◌↔◌, List, ◌∷◌, ◌++◌, ◌≢◌}
use Rattle.message.specs.declared.values.HeaderFields.{HeaderFields}
use Rattle.message.specs.Meaning.{Part}
use Rattle.store.specs.Kind.{Kind, Model}
use Rattle.recovery.specs.declared.answers.Sign.TheVariants.{Stale, Current}
use Rattle.recovery.specs.Shelf.{is_there}
use Rattle.recovery.specs.State.{Opening, watched, State}
use Rattle.recovery.specs.Calls.{Call, step, after, shown}
use Rattle.recovery.specs.Publisher.{Publisher, value_at, Honest}
use Rattle.recovery.specs.Reach.{reach_of}
use Rattle.recovery.specs.Guarantee.{Served, Adopts, TakenIn}

module _ {V O : Type 0} (K : Kind V O) (o : Opening) (s : State V O) (i : ℕ) where
  -- (a) the book, if it is not stale, is the publisher's at the packet number that it shows
  abbrev pub TrueBook : Publisher → Type 0
  TrueBook P = ((shown o s i).sign ≢ Stale) → (shown o s i).book ≡ value_at K P i (shown o s i).number

  -- (b) any other receiver of the publisher shows the same exactly when its reach is equal to that of these calls
  abbrev pub SameAsOthers : Publisher → List Call → Type 0
  SameAsOthers P cs = (o' : Opening) (store' : Model V O) (cs' : List Call) → Served K P o' store' cs' → watched o' i ≡ true
      → (shown o s i ≡ shown o' (after K o' store' cs') i) ↔ (reach_of K o cs i ≡ reach_of K o' cs' i)

  -- (c) the book is current, if among these calls one adopted a snapshot of packet n for it, and every packet from n + 1 to the
  -- highest heard was on the shelf then or was taken since
  abbrev pub IsCurrent : Publisher → Model V O → List Call → Type 0
  IsCurrent P store cs = (early : List Call) (c : Call) (since : List Call) → cs ≡ early ++ (c ∷ since)
      → (n : ℕ) → Adopts K P o (after K o store early) c i n
      → ((k : ℕ) → n < k → k ≤ s.plain.heard
      → (is_there ((after K o store early).plain.shelf k) ≡ true) ⊎ TakenIn K P o (step K o (after K o store early) c) since k)
      → (shown o s i).sign ≡ Current

  -- for every honest publisher and every run of it that has led to this state
  abbrev pub Guaranteed : (HeaderFields → List Part → V → Type 0) → Type 0
  Guaranteed Image = (P : Publisher) → Honest K P Image → (store : Model V O) (cs : List Call) → Served K P o store cs → after K o store cs ≡ s → watched o i ≡ true
      → TrueBook P × SameAsOthers P cs × IsCurrent P store cs
