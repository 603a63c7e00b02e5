-- a book that is put, as the store's model has it
use Rattle.std.proofs.Common.{◌≡◌, ℕ, ◌+◌, ◌*◌, ◌<◌, ◌≤◌, List, map, length, get_or, set, sym, ap, ◌∙◌, ⊎_elim, arith}
use Rattle.std.specs.List.{range_with_len}
use Rattle.std.proofs.lemmas.List.FromFn.{length-map-range_with_len, get_or-map-range_with_len}
use Rattle.std.proofs.lemmas.List.{same_lists, length-set, get_or-set_same, get_or-set_other}
use Rattle.std.proofs.lemmas.Bool.{cases_eq}
use Rattle.store.specs.Kind.{Model}
use Rattle.store.specs.Calls.{with_slot, with_staged}
use Rattle.orders.specs.declared.due.Due.{Due}
use Rattle.orders.specs.declared.rows.Rows.{Rows}
use Rattle.orders.specs.declared.order_store.OrderStore.{OrderStore}
use Rattle.orders.specs.Book.{Book}
use Rattle.orders.specs.Kind.{Setup, orders}
use Rattle.orders.specs.Rows.{PutsBook, row, book_at}

abbrev pub books : Rows → ℕ → List Book
books r n = map (book_at r) (range_with_len 1 n)

abbrev pub model : Rows → ℕ → Due → Model Book Due
model r n w = record { slots = books r n; staged = book_at r 0; owed = w }

pub books-length : (r : Rows) (n : ℕ) → length (books r n) ≡ n
books-length r n = length-map-range_with_len (book_at r) 1 n

pub book-value : (r : Rows) (n i : ℕ) (d : Book) → i < n → get_or (books r n) i d ≡ book_at r (i + 1)
book-value r n i d h = get_or-map-range_with_len (book_at r) 1 n i (i + 1) d h (omega arith)

same_model : (a b : List Book) (x y : Book) (w : Due) → a ≡ b → x ≡ y → ◌≡◌ {A = Model Book Due} (record { slots = a; staged = x; owed = w }) (record { slots = b; staged = y; owed = w })
same_model a b x y w e f = ap (λ z. record { slots = z; staged = x; owed = w }) e ∙ ap (λ z. record { slots = b; staged = z; owed = w }) f

module _ (o : Setup) (r t : Rows) (n : ℕ) (c : r.count ≡ 2 * n + 2) where
  pub slot_put : (i : ℕ) (v : Book) (w : Due) → i < n → PutsBook r t (i + 1) v → model t n w ≡ with_slot (orders o) (model r n w) i v
  slot_put i v w h p = same_model _ _ _ _ w
      (same_lists (books t n) (set (books r n) i v) (books-length t n ∙ sym (length-set (books r n) i v ∙ books-length r n))
      (λ k d l.
      let m : k < n = omega (arith, books-length t n) in
      book-value t n k d m ∙ ⊎_elim
      (λ e. ap (λ z. book_at t (z + 1)) e ∙ (p.here ∙ sym (ap (λ z. get_or (set (books r n) i v) z d) e ∙ get_or-set_same (books r n) i v d (omega (arith, books-length r n)))))
      (λ ne. p.others (k + 1) (omega arith) (λ e. ne (omega arith)) ∙ sym (get_or-set_other (books r n) i k v d ne ∙ book-value r n k d m))
      (cases_eq k i)))
      (p.others 0 (omega arith) (λ e. omega arith))

  pub staged-put : (v : Book) (w x : Due) → PutsBook r t 0 v → model t n x ≡ with_staged (orders o) (model r n w) v x
  staged-put v w x p = same_model _ _ _ _ x
      (same_lists (books t n) (books r n) (books-length t n ∙ sym (books-length r n))
      (λ k d l.
      let m : k < n = omega (arith, books-length t n) in
      book-value t n k d m ∙ (p.others (k + 1) (omega arith) (λ e. omega arith) ∙ sym (book-value r n k d m))))
      p.here

-- a store stays sound where another book than the staged one is put
pub record Sound (s : OrderStore) (t : Rows) (w : Due) : Type 0 where
  pub shallow : t.depth ≤ 1024
  pub count : t.count ≡ 2 * s.slots + 2
  pub bids : length (row t 0) + w.bids ≤ t.depth
  pub offers : length (row t 1) + w.offers ≤ t.depth

pub sound_slot : (s : OrderStore) (t : Rows) (i : ℕ) (v : Book) → i < s.slots → PutsBook s.rows t (i + 1) v → Sound s t s.owed
sound_slot s t i v h p =
    let e : book_at t 0 ≡ book_at s.rows 0 = p.others 0 (omega (arith, s.count)) (λ z. omega arith) in
    record {
      shallow = omega (arith, p.depth, s.shallow);
      count = p.count ∙ s.count;
      bids = omega (arith, s.bids, p.depth, ap (λ z. length z.bids) e);
      offers = omega (arith, s.offers, p.depth, ap (λ z. length z.offers) e);
    }

pub sound-staged : (s : OrderStore) (t : Rows) (v : Book) (w : Due) → PutsBook s.rows t 0 v → length v.bids + w.bids ≤ s.rows.depth → length v.offers + w.offers ≤ s.rows.depth → Sound s t w
sound-staged s t v w p b o = record {
  shallow = omega (arith, p.depth, s.shallow);
  count = p.count ∙ s.count;
  bids = omega (arith, p.depth, ap (λ z. length z.bids) p.here);
  offers = omega (arith, p.depth, ap (λ z. length z.offers) p.here);
}
