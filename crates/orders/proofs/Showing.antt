-- what is shown of rows and slots
use Rattle.std.proofs.Common.{◌≡◌, ℕ, ◌+◌, ◌-◌, ◌*◌, ◌<◌, ◌≤◌, Bool, true, false, cond, ltb, List, [], length, get_or, drop, Some, None, Option, sym, refl, ap, ◌∙◌, arith}
use Rattle.std.proofs.lemmas.List.{get_or_past, get_or-take, get_or-drop}
use Rattle.std.proofs.lemmas.Option.{slice_get-get_or, slice_get_past}
use Rattle.std.proofs.lemmas.Bool.{lt-ltb, cond-true}
use Rattle.message.specs.declared.values.Order.{Order}
use Rattle.orders.specs.declared.rows.Rows.{Rows}
use Rattle.orders.specs.declared.order_store.OrderStore.{OrderStore}
use Rattle.orders.specs.declared.side.Side.{Side}
use Rattle.orders.specs.declared.side.Side.TheVariants.{Bid, Offer}
use Rattle.orders.specs.Book.{empty_book}
use Rattle.orders.specs.Rows.{row}
use Rattle.orders.specs.Shown.{of_side, at_position, shown}
use Rattle.orders.proofs.Putting.{row-length}
use Rattle.orders.proofs.Slots.{books, books-length, book-value}

pub none_first : (xs : List Order) (p : ℕ) → p ≡ 0 → None ≡ at_position xs p
none_first xs p e = ap (at_position xs) (sym e)

pub none_past : (xs : List Order) (p : ℕ) → length xs < p → None ≡ at_position xs p
none_past xs p h = sym (cond-true _ _ _ (lt-ltb 0 p (omega arith)) ∙ slice_get_past xs (p - 1) (omega arith))

-- an order of a row is one of the table
pub at_row : (s : Rows) (r p : ℕ) (d : Order) → r < s.count → (p ≡ 0 → ⊥) → p ≤ get_or s.lens r 0 → Some (get_or s.table.now (r * s.depth + (p - 1)) d) ≡ at_position (row s r) p
at_row s r p d i ne l =
    let n = get_or s.lens r 0 in
    let k : p - 1 < get_or s.lens r 0 = omega (arith, ne) in
    let e = get_or-take n (drop (r * s.depth) s.table.now) (p - 1) d k ∙ get_or-drop (r * s.depth) s.table.now (p - 1) d in
    sym (cond-true _ _ _ (lt-ltb 0 p (omega arith)) ∙ (slice_get-get_or (row s r) (p - 1) d (omega (arith, row-length s r i)) ∙ ap Some e))

pub none-shown : (s : OrderStore) (i : ℕ) (side : Side) → s.slots ≤ i → [] ≡ shown s i side
none-shown s i Bid h = ap (λ v. v.bids) (sym (get_or_past (books s.rows s.slots) i empty_book (omega (arith, books-length s.rows s.slots))))
none-shown s i Offer h = ap (λ v. v.offers) (sym (get_or_past (books s.rows s.slots) i empty_book (omega (arith, books-length s.rows s.slots))))

pub row-shown : (s : OrderStore) (i r : ℕ) (side : Side) → i < s.slots → r ≡ of_side side (2 * (i + 1)) (2 * (i + 1) + 1) → row s.rows r ≡ shown s i side
row-shown s i r Bid h e = ap (row s.rows) e ∙ ap (λ v. v.bids) (sym (book-value s.rows s.slots i empty_book h))
row-shown s i r Offer h e = ap (row s.rows) e ∙ ap (λ v. v.offers) (sym (book-value s.rows s.slots i empty_book h))

either_none : (b : Bool) → None ≡ cond {A = Option Order} b None None
either_none true = refl
either_none false = refl

pub none-of-none : (p : ℕ) → None ≡ at_position [] p
none-of-none p = either_none (ltb 0 p)
