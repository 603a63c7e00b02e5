-- The first place of an instrument in a list.
use Rattle.std.proofs.Common.{◌≡◌, ℕ, zero, suc, ◌+◌, ◌%◌, ◌<◌, ◌≤◌, Bool, true, false, not, eqb, ltb, List, [], ◌∷◌, length, get_or, drop, set, is_some, Some, None, Option, sym, refl, ap, ◌∙◌, subst, ⊎_elim, arith}
use Rattle.std.proofs.lemmas.List.{drop_more, drop_all, get_or-set_same, get_or-set_other}
use Rattle.std.proofs.lemmas.Bool.{eqb-true, eq-eqb, ne_eqb, lt-ltb, le-ltb, ltb-false, cases_eq, cases_lt, and_parts, not-true}
use Rattle.recovery.specs.State.{slot_in, distinct}
use Rattle.settling.specs.Slots.{slot_found}

pub by_test : {X : Type 0} (b : Bool) → (b ≡ true → X) → (b ≡ false → X) → X
by_test true f g = f refl
by_test false f g = g refl

pub slot_most : (w : List ℕ) (i : ℕ) → slot_in w i ≤ length w
slot_most [] i = omega arith
slot_most (x ∷ xs) i = by_test (eqb x i) (λ e. rw e (omega arith)) (λ e. rw e (omega (arith, slot_most xs i)))

-- what stands at the first place
pub slot_is : (w : List ℕ) (i : ℕ) → slot_in w i < length w → get_or w (slot_in w i) 0 ≡ i
slot_is [] i l = absurd (omega arith)
slot_is (x ∷ xs) i l = by_test (eqb x i) (λ e. rw e (eqb-true x i e)) (λ e. rw e (slot_is xs i (let h = rw e at l in omega (arith, h))))

-- no place of an instrument is before the first
pub slot_first : (w : List ℕ) (i k : ℕ) → k < length w → get_or w k 0 ≡ i → slot_in w i ≤ k
slot_first [] i k l e = absurd (omega arith)
slot_first (x ∷ xs) i zero l e = rw (eq-eqb x i e) (omega arith)
slot_first (x ∷ xs) i (suc k) l e = by_test (eqb x i) (λ h. rw h (omega arith)) (λ h. rw h (omega (arith, slot_first xs i k (omega arith) e)))

pub slot_later : (w : List ℕ) (i k : ℕ) → k < length w → (get_or w k 0 ≡ i → ⊥) → k ≤ slot_in w i → k + 1 ≤ slot_in w i
slot_later w i k l d h = ⊎_elim
    (λ (e : slot_in w i ≡ k). absurd (d (ap (λ j. get_or w j 0) (sym e) ∙ slot_is w i (omega arith))))
    (λ (e : slot_in w i ≡ k → ⊥). omega arith)
    (cases_eq (slot_in w i) k)

pub slot_here : (w : List ℕ) (i k : ℕ) → k < length w → get_or w k 0 ≡ i → k ≤ slot_in w i → Some k ≡ slot_found w i
slot_here w i k l e h =
    let s = slot_first w i k l e in
    let same : slot_in w i ≡ k = omega arith in
    rw (same, lt-ltb k (length w) l)

pub slot_none : (w : List ℕ) (i : ℕ) → length w ≤ slot_in w i → None ≡ slot_found w i
slot_none w i h = rw (le-ltb (slot_in w i) (length w) h)

some_found : (w : List ℕ) (i : ℕ) → is_some (slot_found w i) ≡ ltb (slot_in w i) (length w)
some_found w i = by_test (ltb (slot_in w i) (length w)) (λ e. rw e) (λ e. rw e)

-- one instrument more that stands nowhere behind
pub distinct_more : (w rest : List ℕ) (k : ℕ) (r : Option ℕ) → k < length w → rest ≡ drop (k + 1) w → r ≡ slot_found rest (get_or w k 0) → is_some r ≡ false → distinct w ≡ distinct (drop k w) → distinct w ≡ distinct (drop (k + 1) w)
distinct_more w rest k r l p q e h =
    let t : ltb (slot_in (drop (k + 1) w) (get_or w k 0)) (length (drop (k + 1) w)) ≡ false
    = sym (some_found (drop (k + 1) w) (get_or w k 0)) ∙ ap (λ z. is_some (slot_found z (get_or w k 0))) (sym p) ∙ ap is_some (sym q) ∙ e in
    h ∙ ap distinct (drop_more w k 0 l) ∙ rw t

pub distinct_not : (w rest : List ℕ) (k : ℕ) (r : Option ℕ) → k < length w → rest ≡ drop (k + 1) w → r ≡ slot_found rest (get_or w k 0) → is_some r ≡ true → distinct w ≡ distinct (drop k w) → false ≡ distinct w
distinct_not w rest k r l p q e h =
    let t : ltb (slot_in (drop (k + 1) w) (get_or w k 0)) (length (drop (k + 1) w)) ≡ true
    = sym (some_found (drop (k + 1) w) (get_or w k 0)) ∙ ap (λ z. is_some (slot_found z (get_or w k 0))) (sym p) ∙ ap is_some (sym q) ∙ e in
    sym (h ∙ ap distinct (drop_more w k 0 l) ∙ rw t)

pub distinct-all : (w : List ℕ) (k : ℕ) → length w ≤ k → distinct w ≡ distinct (drop k w) → true ≡ distinct w
distinct-all w k l h = sym (h ∙ ap distinct (drop_all k w l))

-- each instrument of different ones is at its slot
pub slot_own : (w : List ℕ) (q : ℕ) → distinct w ≡ true → q < length w → slot_in w (get_or w q 0) ≡ q
slot_own [] q d l = absurd (omega arith)
slot_own (x ∷ xs) zero d l = rw (eq-eqb x x refl)
slot_own (x ∷ xs) (suc q) d l =
    let parts = and_parts (not (ltb (slot_in xs x) (length xs))) (distinct xs) d in
    let away : x ≡ get_or xs q 0 → ⊥ = λ e. let s = slot_first xs x q (omega arith) (sym e) in let t = ltb-false _ _ (not-true _ parts.0) in omega arith in
    rw (ne_eqb x (get_or xs q 0) away) (ap suc (slot_own xs q parts.1 (omega arith)))

-- the instruments before place k are noted
abbrev pub NearUpto : ℕ → List ℕ → List ℕ → Type 0
NearUpto k first w = (i : ℕ) → slot_in w i < k → get_or first (i % 1024) 0 ≤ slot_in w i

pub near_more : (k v : ℕ) (first w : List ℕ) → k < length w → length first ≡ 1024 → v ≤ get_or first (get_or w k 0 % 1024) 0 → v ≤ k → NearUpto k first w
    → NearUpto (k + 1) (set first (get_or w k 0 % 1024) v) w
near_more k v first w lt long below le near i h = ⊎_elim
    (λ (e : i % 1024 ≡ get_or w k 0 % 1024).
    subst (λ z. z ≤ slot_in w i) (sym (ap (λ z. get_or (set first (get_or w k 0 % 1024) v) z 0) e ∙ get_or-set_same first (get_or w k 0 % 1024) v 0 (omega arith)))
    (⊎_elim
    (λ (here : slot_in w i ≡ k). omega arith)
    (λ (away : slot_in w i ≡ k → ⊥). let n = near i (omega arith) in let f = ap (λ z. get_or first z 0) e in omega arith)
    (cases_eq (slot_in w i) k)))
    (λ (e : i % 1024 ≡ get_or w k 0 % 1024 → ⊥).
    let away : slot_in w i ≡ k → ⊥ = λ z. e (ap (λ y. y % 1024) (sym (slot_is w i (omega arith)) ∙ ap (λ y. get_or w y 0) z)) in
    subst (λ z. z ≤ slot_in w i) (sym (get_or-set_other first (get_or w k 0 % 1024) (i % 1024) v 0 e)) (near i (omega arith)))
    (cases_eq (i % 1024) (get_or w k 0 % 1024))

pub near_all : (k : ℕ) (first w : List ℕ) → length w ≤ k → ((j : ℕ) → get_or first j 0 ≤ length w) → NearUpto k first w → (i : ℕ) → get_or first (i % 1024) 0 ≤ slot_in w i
near_all k first w le top near i = ⊎_elim
    (λ (lt : slot_in w i < length w). near i (omega arith))
    (λ (no : length w ≤ slot_in w i). let t = top (i % 1024) in omega arith)
    (cases_lt (slot_in w i) (length w))
