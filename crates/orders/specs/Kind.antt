-- The kind of store that keeps books of at most d orders a side.
use Rattle.std.specs.Prelude.{ℕ, Bool, true, false, ◌&&◌, length, nat_le}
use Rattle.layout.specs.declared.kinds.Actions.{Actions}
use Rattle.message.specs.declared.values.HeaderFields.{HeaderFields}
use Rattle.message.specs.Meaning.{Body, put, delete, mass, empty, stat, aside, broken}
use Rattle.store.specs.Kind.{Kind}
use Rattle.orders.specs.declared.due.Due.{Due}
use Rattle.orders.specs.Book.{Book, empty_book, is_side, side_of, with_side}
use Rattle.orders.specs.Edits.{taken, fits_order, after_order, fits_mass, after_mass, after_delete}
use Rattle.orders.specs.Staged.{due_of, concerns_book, takes_part, put_part, less_part, none_due}

-- what a store of books is opened with: the numbers of the actions, and how many orders a side may have
pub record Setup : Type 0 where
  pub actions : Actions
  pub depth : ℕ

abbrev pub setup : Actions → ℕ → Setup
setup a d = record { actions = a; depth = d }

abbrev pub fits_book : Setup → Book → Body → Bool
fits_book o v (put f) = is_side f.side && fits_order o.actions o.depth (length (side_of v f.side)) f
fits_book o v (delete f) = is_side f.side && taken (length (side_of v f.side)) f.position
fits_book o v (mass f) = is_side f.side && fits_mass o.actions (length (side_of v f.side)) f
fits_book o v empty = true
fits_book o v (stat f) = true
fits_book o v aside = true
fits_book o v broken = false

abbrev pub after_book : Setup → Book → Body → Book
after_book o v (put f) = with_side v f.side (after_order o.actions (side_of v f.side) f)
after_book o v (delete f) = with_side v f.side (after_delete (side_of v f.side) f.position)
after_book o v (mass f) = with_side v f.side (after_mass o.actions (side_of v f.side) f)
after_book o v empty = empty_book
after_book o v (stat f) = v
after_book o v aside = v
after_book o v broken = v

abbrev pub holds_counts : Setup → HeaderFields → Bool
holds_counts o h = nat_le h.bids o.depth && nat_le h.offers o.depth

abbrev pub orders : Setup → Kind Book Due
orders o = record {
  fresh = empty_book;
  fits = fits_book o;
  after = after_book o;
  holds = holds_counts o;
  begins = λ h. empty_book;
  owes = λ h. due_of h.bids h.offers;
  concerns = concerns_book;
  takes = takes_part;
  put = put_part;
  less = less_part;
  whole = none_due;
}
