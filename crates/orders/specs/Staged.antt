-- A book that is staged, and the orders of each side that are owed to it.
use Rattle.std.specs.Prelude.{ℕ, ◌+◌, ◌-◌, Bool, true, false, ◌&&◌, [], ◌∷◌, ◌++◌, length, ◌==◌, nat_lt}
use Rattle.message.specs.declared.values.EntryFields.{EntryFields}
use Rattle.message.specs.Meaning.{Part, entry, number, torn}
use Rattle.orders.specs.Book.{Book, is_side, on_side, side_of, with_side}
use Rattle.orders.specs.declared.due.Due.{Due}

abbrev pub due_of : ℕ → ℕ → Due
due_of bids offers = record { bids = bids; offers = offers }

-- a statistic is no concern of a book
abbrev pub concerns_book : Part → Bool
concerns_book (entry e) = true
concerns_book (number f) = false
concerns_book torn = true

-- an entry fits at its side's next position while one is owed
abbrev pub fits_entry : Book → Due → EntryFields → Bool
fits_entry v o e = is_side e.side && (e.position == length (side_of v e.side) + 1 && nat_lt 0 (on_side e.side o.bids o.offers))

abbrev pub takes_part : Book → Due → Part → Bool
takes_part v o (entry e) = fits_entry v o e
takes_part v o (number f) = true
takes_part v o torn = false

abbrev pub put_part : Book → Due → Part → Book
put_part v o (entry e) = with_side v e.side (side_of v e.side ++ (e.order ∷ []))
put_part v o (number f) = v
put_part v o torn = v

abbrev pub less_part : Due → Part → Due
less_part o (entry e) = on_side e.side (due_of (o.bids - 1) o.offers) (due_of o.bids (o.offers - 1))
less_part o (number f) = o
less_part o torn = o

abbrev pub none_due : Due → Bool
none_due o = o.bids == 0 && o.offers == 0
