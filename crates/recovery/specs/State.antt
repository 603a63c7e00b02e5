-- What a receiver is opened with, and its state together with that of its store and shelf.
use Rattle.std.specs.Prelude.{ℕ, suc, Bool, true, false, cond, not, ◌&&◌, List, [], ◌∷◌, length, None, Option, ◌==◌, nat_lt, slice_index_or}
use Rattle.layout.specs.declared.sheet.Sheet.{Sheet}
use Rattle.store.specs.Kind.{Kind, Model}
use Rattle.recovery.specs.declared.marks.Mark.{Mark}
use Rattle.recovery.specs.declared.marks.Mark.TheVariants.{Stale, AsOf}
use Rattle.recovery.specs.declared.marks.Followed.{Followed}
use Rattle.recovery.specs.declared.marks.Group.{Group}
use Rattle.recovery.specs.Shelf.{Found, absent}
use Rattle.recovery.specs.Books.{Book, book}

-- `own` is the receiver's number, which its joins carry; `watch` has the instruments, each at its slot
pub record Opening : Type 0 where
  pub channel : ℕ
  pub version : ℕ
  pub own : ℕ
  pub watch : List ℕ
  pub sheet : Sheet

-- the first place of an instrument in a list; the list's length where it is not there
abbrev pub slot_in : List ℕ → ℕ → ℕ
slot_in [] i = 0
slot_in (x ∷ xs) i = cond (x == i) 0 (suc (slot_in xs i))

abbrev pub slot_of : Opening → ℕ → ℕ
slot_of o i = slot_in o.watch i

abbrev pub watched : Opening → ℕ → Bool
watched o i = nat_lt (slot_of o i) (length o.watch)

abbrev pub distinct : List ℕ → Bool
distinct [] = true
distinct (x ∷ xs) = not (nat_lt (slot_in xs x) (length xs)) && distinct xs

-- the plain part, which holds no value: the highest packet heard, the shelf by number, the join, the loop that is followed, the
-- open group
pub record Plain : Type 0 where
  pub heard : ℕ
  pub shelf : ℕ → Found
  pub joined : Bool
  pub followed : Option Followed
  pub pending : Option Group

-- what a store has besides the books: the number of its slots, the staged value and what is owed to it
pub record Rest (V O : Type 0) : Type 0 where
  pub room : ℕ
  pub staged : V
  pub owed : O

-- `books` goes by slot, the mark with the slot's value
pub record State (V O : Type 0) : Type 0 where
  pub plain : Plain
  pub books : ℕ → Book V
  pub rest : Rest V O

module _ {V O : Type 0} (K : Kind V O) where
  abbrev pub books_of : List Mark → List V → ℕ → Book V
  books_of marks slots q = book (slice_index_or marks q Stale) (slice_index_or slots q K.fresh)

  abbrev pub rest_of : Model V O → Rest V O
  rest_of s = record { room = length s.slots; staged = s.staged; owed = s.owed }

  -- the state of a plain part and a table of marks, with what the store holds
  abbrev pub state_of : Plain → List Mark → Model V O → State V O
  state_of p marks s = record { plain = p; books = books_of marks s.slots; rest = rest_of s }

  -- nothing is heard or shelved, and every watched book is fresh, as of 0
  abbrev pub opened : Opening → Model V O → State V O
  opened o s = record {
    plain = record { heard = 0; shelf = λ _. absent; joined = false; followed = None; pending = None };
    books = λ q. cond (nat_lt q (length o.watch)) (book (AsOf 0) K.fresh) (book Stale (slice_index_or s.slots q K.fresh));
    rest = rest_of s;
  }
