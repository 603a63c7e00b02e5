-- How the books of two states compare, instrument by instrument.
use Rattle.std.specs.Prelude.{◌≡◌, ℕ, ◌<◌, ◌≤◌, cond, List, length, ◌==◌, slice_index}
use Rattle.store.specs.Kind.{Kind, Model}
use Rattle.recovery.specs.declared.marks.Mark.{Mark}
use Rattle.recovery.specs.declared.marks.Mark.TheVariants.{Stale, AsOf}
use Rattle.recovery.specs.Books.{Book, kind_at}
use Rattle.recovery.specs.State.{books_of, rest_of}

module _ {V O : Type 0} (K : Kind V O) where
  abbrev pub book_at : List Mark → Model V O → ℕ → Book V
  book_at ms s q = books_of K ms s.slots q

  -- the kind at a slot of a store
  abbrev pub kind_in : Model V O → ℕ → Kind V O
  kind_in s q = kind_at K (rest_of K s).room q

  -- of each watched instrument F of its book before is G of its book after, and nothing else has changed
  pub record Meets (w : List ℕ) (F G : Kind V O → ℕ → Book V → Book V) (ms : List Mark) (s : Model V O) (ms' : List Mark) (s' : Model V O) : Type 0 where
    pub books : (q : ℕ) → q < length w → F (kind_in s q) (slice_index w q) (book_at ms s q) ≡ G (kind_in s q) (slice_index w q) (book_at ms' s' q)
    pub others : (q : ℕ) → length w ≤ q → book_at ms s q ≡ book_at ms' s' q
    pub rest : rest_of K s ≡ rest_of K s'

  -- each watched book is F of what it was, and nothing else has changed
  abbrev pub Each : List ℕ → (Kind V O → ℕ → Book V → Book V) → List Mark → Model V O → List Mark → Model V O → Type 0
  Each w F ms s ms' s' = Meets w F (λ k i x. x) ms s ms' s'

  -- the book at a slot is y, and nothing else has changed
  pub record Puts (p : ℕ) (y : Book V) (ms : List Mark) (s : Model V O) (ms' : List Mark) (s' : Model V O) : Type 0 where
    pub books : (q : ℕ) → book_at ms' s' q ≡ cond (q == p) y (book_at ms s q)
    pub rest : rest_of K s ≡ rest_of K s'

-- a book stands at `low` or above, or is stale
abbrev pub Low : ℕ → Mark → Type 0
Low low Stale = Unit {0}
Low low (AsOf n) = low ≤ n
