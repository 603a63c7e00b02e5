-- How books lie in a table: one row behind the other, each with room for `depth` orders, and two rows a book.
use Rattle.std.specs.Prelude.{◌≡◌, ℕ, ◌+◌, ◌*◌, ◌<◌, List, take, drop, ◌≢◌, slice_index}
use Rattle.message.specs.declared.values.Order.{Order}
use Rattle.orders.specs.declared.rows.Rows.{Rows}
use Rattle.orders.specs.Book.{Book, book}

-- the orders of row r
abbrev pub row : Rows → ℕ → List Order
row s r = take (slice_index s.lens r) (drop (r * s.depth) s.table.now)

-- book k: its bids in the first of two rows, its offers in the second
abbrev pub book_at : Rows → ℕ → Book
book_at s k = book (row s (2 * k)) (row s (2 * k + 1))

-- the list l has come to row r, and all else is as it was
pub record Puts (s t : Rows) (r : ℕ) (l : List Order) : Type 0 where
  pub here : row t r ≡ l
  pub others : (j : ℕ) → j < s.count → (j ≢ r) → row t j ≡ row s j
  pub depth : t.depth ≡ s.depth
  pub count : t.count ≡ s.count

-- the book v has come to place k, and all else is as it was
pub record PutsBook (s t : Rows) (k : ℕ) (v : Book) : Type 0 where
  pub here : book_at t k ≡ v
  pub others : (j : ℕ) → 2 * j + 1 < s.count → (j ≢ k) → book_at t j ≡ book_at s j
  pub depth : t.depth ≡ s.depth
  pub count : t.count ≡ s.count
