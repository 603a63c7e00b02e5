-- a table that has just been opened: its room, and its empty rows
use Rattle.std.proofs.Common.{◌≡◌, ℕ, zero, suc, ◌+◌, ◌*◌, ◌/◌, ◌≤◌, true, [], ◌∷◌, map, get_or, replicate, refl, ap, ◌∙◌, mul-le-mul_right, mul_assoc, div-mul-le_self, arith}
use Rattle.std.specs.List.{range_with_len}
use Rattle.std.proofs.lemmas.Nat.{le-div}
use Rattle.std.proofs.lemmas.Bool.{and_parts, leb-true}
use Rattle.orders.specs.declared.rows.Rows.{Rows}
use Rattle.orders.specs.Book.{book, empty_book}
use Rattle.orders.specs.Rows.{row, book_at}
use Rattle.orders.specs.Opening.{may_open, slots_in}

pub open_bounds : (d n : ℕ) → may_open d n ≡ true → (1 ≤ d) × (d ≤ 1024) × (4 * d ≤ n)
open_bounds d n h =
    let a = and_parts _ _ h in
    let b = and_parts _ _ a.1 in
    (leb-true _ _ a.0, leb-true _ _ b.0, leb-true _ _ b.1)

-- two books fit at least, so one stays for a slot
pub two_books : (d n : ℕ) → may_open d n ≡ true → 2 ≤ n / (2 * d)
two_books d n h = let b = open_bounds d n h in le-div 2 n (2 * d) (omega arith) (omega arith)

pub books_fit : (d n : ℕ) → may_open d n ≡ true → (2 * slots_in d n + 2) * d ≤ n
books_fit d n h =
    let m = slots_in d n in
    let a : m + 1 ≤ n / (2 * d) = omega (arith, two_books d n h) in
    let f : 2 * m + 2 ≡ (m + 1) * 2 = omega arith in
    let e : (2 * m + 2) * d ≡ (m + 1) * (2 * d) = ap (λ z. z * d) f ∙ mul_assoc (m + 1) 2 d in
    omega (arith, mul-le-mul_right (2 * d) a, div-mul-le_self n (2 * d), e)

pub zeros : (n r : ℕ) → ◌≡◌ {A = ℕ} (get_or (replicate n 0) r 0) 0
zeros zero r = refl
zeros (suc n) zero = refl
zeros (suc n) (suc r) = zeros n r

pub map_same : {X : Type 0} (f : ℕ → X) (v : X) → ((k : ℕ) → f k ≡ v) → (a n : ℕ) → map f (range_with_len a n) ≡ replicate n v
map_same f v e a zero = refl
map_same f v e a (suc n) = ap (λ z. z ∷ map f (range_with_len (a + 1) n)) (e a) ∙ ap (λ z. v ∷ z) (map_same f v e (a + 1) n)

pub empty_at : (s : Rows) → ((r : ℕ) → row s r ≡ []) → (k : ℕ) → book_at s k ≡ empty_book
empty_at s e k = ap (λ z. book z (row s (2 * k + 1))) (e (2 * k)) ∙ ap (λ z. book [] z) (e (2 * k + 1))
