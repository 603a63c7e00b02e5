-- A state with one part of it changed.
use Rattle.std.specs.Prelude.{ℕ, Bool, cond, Some, None, Option, Ok, Err, Result, ◌==◌}
use Rattle.recovery.specs.declared.answers.Incremental.{Incremental}
use Rattle.recovery.specs.declared.answers.Incremental.TheVariants.{Repeat, Taken}
use Rattle.recovery.specs.declared.fault.StreamFault.{StreamFault}
use Rattle.recovery.specs.declared.marks.Followed.{Followed}
use Rattle.recovery.specs.declared.marks.Group.{Group}
use Rattle.recovery.specs.Shelf.{Found}
use Rattle.recovery.specs.Books.{Book}
use Rattle.recovery.specs.State.{Plain, State}

abbrev pub hearing : ℕ → (ℕ → Found) → Plain → Plain
hearing h shelf p = record { heard = h; shelf = shelf; joined = p.joined; followed = p.followed; pending = p.pending }

abbrev pub following : Bool → Option Followed → Option Group → Plain → Plain
following j f g p = record { heard = p.heard; shelf = p.shelf; joined = j; followed = f; pending = g }

abbrev pub on_pending : {A : Type 0} → Option Group → A → (Group → A) → A
on_pending None a f = a
on_pending (Some g) a f = f g

-- a packet that is taken, or else nothing
abbrev pub when_taken : {A : Type 0} → Result Incremental StreamFault → A → A → A
when_taken (Err e) t s = s
when_taken (Ok Repeat) t s = s
when_taken (Ok Taken) t s = t

abbrev pub when_ok : {A : Type 0} → Result (Unit {0}) StreamFault → A → A → A
when_ok (Err e) t s = s
when_ok (Ok x) t s = t

module _ {V O : Type 0} where
  abbrev pub with_plain : Plain → State V O → State V O
  with_plain p s = record { plain = p; books = s.books; rest = s.rest }

  abbrev pub with_pending : Option Group → State V O → State V O
  with_pending g s = with_plain (following s.plain.joined s.plain.followed g s.plain) s

  abbrev pub with_book : ℕ → Book V → State V O → State V O
  with_book q x s = record { plain = s.plain; books = λ k. cond (k == q) x (s.books k); rest = s.rest }

  abbrev pub with_staged : V → O → State V O → State V O
  with_staged v w s = record { plain = s.plain; books = s.books; rest = record { room = s.rest.room; staged = v; owed = w } }
