-- A receiver at its opening.
use Rattle.std.proofs.Common.{◌≡◌, ℕ, zero, suc, ◌+◌, ◌%◌, ◌<◌, ◌≤◌, Bool, true, false, cond, not, ◌&&◌, eqb, ltb, leb, ◌⊎◌, List, ◌++◌, length, get_or, take, drop, replicate, None, Ok, sym, refl, ap, ◌∙◌, ap₂, ⊎_elim, arith}
use Rattle.std.proofs.lemmas.Bool.{eq-eqb, ne_eqb, lt-ltb, le-ltb, leb-true, cases_order, and_parts, not-false}
use Rattle.std.proofs.lemmas.Bool.Decides.{nat_tests}
use Rattle.layout.specs.declared.sheet.Sheet.{Sheet}
use Rattle.store.specs.Kind.{Kind, Model}
use Rattle.store.specs.Calls.{value_at}
use Rattle.recovery.specs.declared.marks.Mark.{Mark}
use Rattle.recovery.specs.declared.marks.Mark.TheVariants.{Stale, AsOf}
use Rattle.recovery.specs.declared.fault.StreamFault.TheVariants.{WatchList}
use Rattle.recovery.specs.Shelf.{absent, shelf_of}
use Rattle.recovery.specs.Books.{book}
use Rattle.recovery.specs.State.{distinct, rest_of, opened}
use Rattle.recovery.specs.Answers.{opening_check, refuses}
use Rattle.settling.specs.declared.places.Places.{Places}
use Rattle.settling.specs.Watched.{watch_of}
use Rattle.receiver.specs.declared.subscription.Subscription.{Subscription}
use Rattle.receiver.specs.declared.plain.Plain.{Plain}
use Rattle.receiver.specs.Standings.{opening_of, state_in}
use Rattle.settling.specs.Placed.{numbers_of, sizes_of}
use Rattle.receiver.proofs.Accepted.{and_ok, refuses_ok}

-- one place more has the value x
pub fresh-more : {V : Type 0} (n : ℕ) (f₀ f f' : ℕ → V) (x : V) → ((q : ℕ) → f q ≡ cond (ltb q n) x (f₀ q)) → ((q : ℕ) → f' q ≡ cond (eqb q n) x (f q)) → (q : ℕ) → f' q ≡ cond (ltb q (n + 1)) x (f₀ q)
fresh-more n f₀ f f' x was wrote q = wrote q ∙ ap (λ z. cond (eqb q n) x z) (was q) ∙ ⊎_elim
    (λ (e : q ≡ n). rw (eq-eqb q n e, lt-ltb q (n + 1) (omega arith)))
    (λ (d : (q < n) ⊎ (n < q)). ⊎_elim
    (λ (l : q < n). rw (ne_eqb q n (λ z. omega arith), lt-ltb q n l, lt-ltb q (n + 1) (omega arith)))
    (λ (l : n < q). rw (ne_eqb q n (λ z. omega arith), le-ltb q n (omega arith), le-ltb q (n + 1) (omega arith)))
    d)
    (cases_order q n)

pub fresh-none : {V : Type 0} (f : ℕ → V) (x : V) (q : ℕ) → f q ≡ cond (ltb q 0) x (f q)
fresh-none f x q = rw (le-ltb q 0 (omega arith))

same_all : {X : Type 0} (m q : ℕ) (y : X) → get_or (replicate m y) q y ≡ y
same_all zero q y = refl
same_all (suc m) zero y = refl
same_all (suc m) (suc q) y = same_all m q y

-- the first n of m places are filled with x
pub filled : {X : Type 0} (n m q : ℕ) (x y : X) → n ≤ m → get_or (replicate (length (take n (replicate m y))) x ++ drop n (replicate m y)) q y ≡ cond (ltb q n) x y
filled zero m q x y le = rw (le-ltb q 0 (omega arith)) (same_all m q y)
filled (suc n) zero q x y le = absurd (omega arith)
filled (suc n) (suc m) zero x y le = rw (lt-ltb 0 (suc n) (omega arith)) refl
filled (suc n) (suc m) (suc q) x y le = filled n m q x y (omega arith) ∙ ap (λ b. cond b x y) (less_below q n)
  where
    less_below : (j k : ℕ) → ltb j k ≡ ltb (suc j) (suc k)
    less_below j k = grind (arith, nat_tests)

fresh-book : {V : Type 0} (b : Bool) (x : Mark) (v w d : V) → x ≡ cond b (AsOf 0) Stale → v ≡ cond b d w → book x v ≡ cond b (book (AsOf 0) d) (book Stale w)
fresh-book true x v w d e f = ap₂ book e f
fresh-book false x v w d e f = ap₂ book e f

-- nothing lies on the shelf while nothing is heard
bare : (sheet : Sheet) (t : Places) (bytes : List ℕ) → t.heard ≡ 0 → (k : ℕ) → shelf_of sheet t.heard (numbers_of t.at) (sizes_of t.at) bytes k ≡ absent
bare sheet t bytes e k = let u = t.low (k % 32) in grind (arith, nat_tests)

pub opens-fresh : {V O : Type 0} (K : Kind V O) (u : Subscription) (p : Plain) (s s' : Model V O) (n : ℕ) (bytes : List ℕ) → n ≡ length (watch_of u.watch)
    → p.places.heard ≡ 0 → p.joined ≡ false → p.followed ≡ None → p.pending ≡ None
    → ((q : ℕ) → get_or p.marks.at q Stale ≡ cond (ltb q n) (AsOf 0) Stale) → ((q : ℕ) → value_at K s' q ≡ cond (ltb q n) K.fresh (value_at K s q)) → rest_of K s ≡ rest_of K s'
    → state_in K u p s' bytes ≡ opened K (opening_of u) s
opens-fresh K u p s s' n bytes is heard joined followed pending marks values rest = λ j. record {
  plain = record { heard = heard j; shelf = λ k. bare u.sheet p.places bytes heard k j; joined = joined j; followed = followed j; pending = pending j };
  books = λ q. (fresh-book (ltb q n) _ _ _ _ (marks q) (values q) ∙ ap (λ m. cond (ltb q m) (book (AsOf 0) K.fresh) (book Stale (value_at K s q))) is) j;
  rest = sym rest j;
}

-- a watch list that passes
pub listed : (watch : List ℕ) (version slots : ℕ) → opening_check watch version slots ≡ Ok tt → (length watch ≤ 64) × (distinct watch ≡ true)
listed watch version slots e =
    let a = and_ok (refuses (not (ltb 0 (length watch) && (leb (length watch) 64 && distinct watch))) WatchList) _ tt e in
    let b = and_parts _ _ (not-false (ltb 0 (length watch) && (leb (length watch) 64 && distinct watch)) (refuses_ok (not (ltb 0 (length watch) && (leb (length watch) 64 && distinct watch))) WatchList _ a.1)) in
    let c = and_parts (leb (length watch) 64) (distinct watch) b.1 in
    (leb-true (length watch) 64 c.0, c.1)
