-- What a receiver went through since it was opened, and the recovery guarantee over the whole of it.
use Rattle.std.specs.Prelude.{◌≡◌, ℕ, true, List, ◌++◌}
use Rattle.message.specs.declared.values.HeaderFields.{HeaderFields}
use Rattle.message.specs.Meaning.{Part}
use Rattle.store.specs.Kind.{Kind, Model}
use Rattle.recovery.specs.State.{Opening, State, watched}
use Rattle.recovery.specs.Calls.{Call, after}
use Rattle.recovery.specs.Publisher.{Publisher, Honest}
use Rattle.recovery.specs.Guarantee.{Served}
use Rattle.recovery.specs.Present.{TrueBook, SameAsOthers, IsCurrent}

-- a row of calls has led from the state s to the state t
module _ {V O : Type 0} (K : Kind V O) (o : Opening) (s t : State V O) (row : List Call) where
  -- where earlier calls had led from an opening to s, those and then these lead from the opening to t
  abbrev pub Continues : Type 0
  Continues = (store : Model V O) (earlier : List Call) → after K o store earlier ≡ s → after K o store (earlier ++ row) ≡ t

  -- for every honest publisher that served the receiver in the earlier calls and in these, every watched book that t shows is
  -- the publisher's if it is not stale, the same at every receiver with equal reach, and current once a snapshot was adopted
  -- and no packet since is missing
  abbrev pub Recovers : (HeaderFields → List Part → V → Type 0) → Type 0
  Recovers Image = (P : Publisher) → Honest K P Image → (store : Model V O) (earlier : List Call) → after K o store earlier ≡ s
      → Served K P o store (earlier ++ row) → (i : ℕ) → watched o i ≡ true
      → TrueBook K o t i P × SameAsOthers K o t i P (earlier ++ row) × IsCurrent K o t i P store (earlier ++ row)
