-- A book that settles beside its extent: it has the publisher's value, and goes exactly as far.
use Rattle.std.proofs.Common.{◌≡◌, ℕ, zero, suc, ◌+◌, ◌-◌, ◌≤◌, Bool, true, cond, ltb, leb, List, sym, refl, subst, arith}
use Rattle.std.proofs.lemmas.Bool.{leb-true, leb-false, lt-leb, le-leb}
use Rattle.message.specs.declared.values.HeaderFields.{HeaderFields}
use Rattle.message.specs.Meaning.{Part}
use Rattle.store.specs.Kind.{Kind}
use Rattle.recovery.specs.declared.marks.Mark.{Mark}
use Rattle.recovery.specs.declared.marks.Mark.TheVariants.{Stale, AsOf}
use Rattle.recovery.specs.Shelf.{Found, absent, spoilt, intact, upon, is_there}
use Rattle.recovery.specs.Reading.{changes}
use Rattle.recovery.specs.Books.{Book, book, kind_at, fit_all, after_all, lost, climb, aged_by, settle, settle_by}
use Rattle.recovery.specs.Publisher.{Publisher, value_at, Honest}
use Rattle.recovery.specs.Extents.{Extent, nowhere, upto, onward, led}
use Rattle.recovery.proofs.Basics.{by_test}
use Rattle.recovery.proofs.Course.{never}

abbrev pub extent_of : Mark → Extent
extent_of Stale = nowhere
extent_of (AsOf n) = upto n

-- where there is a slot, the kind at it is the kind
pub kind_there : {V O : Type 0} (K : Kind V O) (room q : ℕ) → ltb q room ≡ true → kind_at K room q ≡ K
kind_there K room q e = rw e

module _ {V O : Type 0} (K : Kind V O) (P : Publisher) (Image : HeaderFields → List Part → V → Type 0) (honest : Honest K P Image) where
  -- what lies on the shelf is the publisher's packet of that number
  abbrev pub GoodFound : ℕ → Found → Type 0
  GoodFound k absent = Unit {0}
  GoodFound k spoilt = ⊥
  GoodFound k (intact ms) = (k ≤ P.count) × (ms ≡ P.sent k)

  abbrev pub GoodBy : ℕ → V → Mark → Type 0
  GoodBy i v Stale = v ≡ K.fresh
  GoodBy i v (AsOf n) = v ≡ value_at K P i n

  -- the book of i is the publisher's, and goes as far as the extent
  abbrev pub Both : ℕ → Book V → Extent → Type 0
  Both i x e = GoodBy i x.value x.mark × (extent_of x.mark ≡ e)

  value_next : (i n k : ℕ) → k ≡ suc n → after_all K (value_at K P i n) (changes i (P.sent k)) ≡ value_at K P i k
  unfolding value_at
  value_next i n k e = rw e

  module _ (shelf : ℕ → Found) (there : ℕ → Bool) (good : (k : ℕ) → GoodFound k (shelf k)) (agree : (k : ℕ) → there k ≡ is_there (shelf k)) (i : ℕ) where
    -- one packet, at k after n
    one : (f n k : ℕ) → k ≡ suc n → (x : Found) → there k ≡ is_there x → GoodFound k x
        → Both i (climb K f shelf i k (value_at K P i k)) (upto (onward f there k))
        → Both i (upon x (book (AsOf n) (value_at K P i n)) (lost K) (λ ms. cond (fit_all K (value_at K P i n) (changes i ms)) (climb K f shelf i k (after_all K (value_at K P i n) (changes i ms))) (lost K)))
        (upto (cond (there k) (onward f there k) n))
    one f n k e absent t g ih = rw t (refl, refl)
    one f n k e spoilt t g ih = absurd g
    one f n k e (intact ms) t g ih =
        let fit : fit_all K (value_at K P i n) (changes i (P.sent k)) ≡ true = subst (λ j. fit_all K (value_at K P i n) (changes i (P.sent j)) ≡ true) (sym e) (honest.fitting i n (omega (arith, g.0))) in
        rw (t, g.1, fit, value_next i n k e) ih

    climb_ok : (f n : ℕ) → Both i (climb K f shelf i n (value_at K P i n)) (upto (onward f there n))
    unfolding climb onward
    climb_ok zero n = (refl, refl)
    climb_ok (suc f) n =
        let e : n + 1 ≡ suc n = omega arith in
        subst (λ k. Both i (upon (shelf (n + 1)) (book (AsOf n) (value_at K P i n)) (lost K) (λ ms. cond (fit_all K (value_at K P i n) (changes i ms)) (climb K f shelf i (n + 1) (after_all K (value_at K P i n) (changes i ms))) (lost K))) (upto (cond (there k) (onward f there k) n)))
        e (one f n (n + 1) e (shelf (n + 1)) (agree (n + 1)) (good (n + 1)) (climb_ok f (n + 1)))

    aged_ok : (h : ℕ) (v : V) (x : Mark) (m : ℕ) → Both i (book x v) (upto m) → Both i (aged_by K h v x) (cond (leb h (m + 32)) (upto m) nowhere)
    aged_ok h v Stale m b = never b.1
    aged_ok h v (AsOf n) m b =
        let e : n ≡ m = cc b.1 in
        rw (← e) (by_test (leb (n + 33) h)
        (λ t. let l = leb-true _ _ t in rw (t, lt-leb h (n + 32) (omega (arith, l))) (refl, refl))
        (λ t. let l = leb-false _ _ t in rw (t, le-leb h (n + 32) (omega (arith, l))) (b.0, refl)))

    settle_by_lem : (h : ℕ) (v : V) (x : Mark) → GoodBy i v x → Both i (settle_by K h shelf i v x) (led h there (extent_of x))
    settle_by_lem h v Stale g = (g, refl)
    settle_by_lem h v (AsOf n) g =
        let c = climb_ok (h - n) n in
        rw g (aged_ok h (climb K (h - n) shelf i n (value_at K P i n)).value (climb K (h - n) shelf i n (value_at K P i n)).mark (onward (h - n) there n) c)

    pub settle_ok : (h room q : ℕ) (x : Book V) (e : Extent) → ltb q room ≡ true → Both i x e → Both i (settle (kind_at K room q) h shelf i x) (led h there e)
    settle_ok h room q x e t b = rw (kind_there K room q t, ← b.1) (settle_by_lem h x.value x.mark b.0)
