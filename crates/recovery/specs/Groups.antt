-- How a snapshot's groups are opened, filled, decided and adopted.
use Rattle.std.specs.Prelude.{ℕ, ◌+◌, max, Bool, cond, not, ◌&&◌, ◌||◌, List, [], ◌∷◌, Some, None, ◌==◌, nat_le, nat_lt}
use Rattle.message.specs.declared.values.HeaderFields.{HeaderFields}
use Rattle.message.specs.Meaning.{Msg, Part}
use Rattle.store.specs.Kind.{Kind}
use Rattle.recovery.specs.declared.marks.Mark.{Mark}
use Rattle.recovery.specs.declared.marks.Mark.TheVariants.{Stale, AsOf}
use Rattle.recovery.specs.declared.marks.Group.{Group}
use Rattle.recovery.specs.Shelf.{kept}
use Rattle.recovery.specs.Reading.{Event, opens, closes, adds, told}
use Rattle.recovery.specs.Books.{book}
use Rattle.recovery.specs.State.{Opening, slot_of, watched, State}
use Rattle.recovery.specs.Updates.{with_pending, with_book, with_staged, on_pending}
use Rattle.recovery.specs.Incremental.{renewed}

-- nothing happens to a whole group whose header names n: its book is not behind n, or n is too old
abbrev pub idle : Mark → ℕ → ℕ → Bool
idle Stale n heard = nat_le (n + 33) heard
idle (AsOf m) n heard = nat_le n m || nat_le (n + 33) heard

abbrev pub group_of : ℕ → HeaderFields → Group
group_of i h = record { security = i; last = h.last }

module _ {V O : Type 0} (K : Kind V O) (o : Opening) where
  -- whether a whole group is adopted
  abbrev pub wanted : Group → State V O → Bool
  wanted g s = nat_lt (slot_of o g.security) s.rest.room && not (idle (s.books (slot_of o g.security)).mark g.last s.plain.heard)

  -- the staged value becomes the book, old numbers drop, and all settle
  abbrev pub adopted : Group → State V O → State V O
  adopted g s =
      let h = max s.plain.heard g.last in
      renewed K o h (kept h s.plain.shelf) (with_book (slot_of o g.security) (book (AsOf g.last) s.rest.staged) s)

  -- once nothing is owed, the group is closed and decided
  abbrev pub decided : Group → State V O → State V O
  decided g s = cond (K.whole s.rest.owed) (cond (wanted g s) (adopted g (with_pending None s)) (with_pending None s)) s

  -- a header closes the open group, and opens one where its instrument is watched and the store can hold it
  abbrev pub begun : ℕ → HeaderFields → State V O → State V O
  begun i h s = decided (group_of i h) (with_pending (Some (group_of i h)) (with_staged (K.begins h) (K.owes h) s))

  -- a piece of the open group's instrument; one that does not fit closes the group
  abbrev pub grown : ℕ → Part → Group → State V O → State V O
  grown i p g s =
      cond (i == g.security)
      (cond (K.takes s.rest.staged s.rest.owed p)
      (decided g (with_staged (K.put s.rest.staged s.rest.owed p) (K.less s.rest.owed p) s))
      (with_pending None s))
      s

  abbrev pub event_step : Event → State V O → State V O
  event_step (opens i h) s = cond (watched o i && K.holds h) (begun i h s) (with_pending None s)
  event_step closes s = with_pending None s
  event_step (adds i p) s = on_pending s.plain.pending s (λ g. grown i p g s)

  unfoldable pub event_steps : List Event → State V O → State V O
  event_steps [] s = s
  event_steps (e ∷ es) s = event_steps es (event_step e s)

  unfoldable pub message_steps : List Msg → State V O → State V O
  message_steps [] s = s
  message_steps (m ∷ ms) s = message_steps ms (event_steps (told m) s)
