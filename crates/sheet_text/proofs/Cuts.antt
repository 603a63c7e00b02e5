-- Where a cut falls.
use Rattle.std.proofs.Common.{◌≡◌, ℕ, zero, suc, ◌+◌, ◌-◌, ◌<◌, Bool, false, eqb, ltb, List, [], ◌∷◌, length, get_or, take, drop, Some, None, refl, ap, ◌∙◌, add-one, arith}
use Rattle.std.proofs.lemmas.List.{take_rest}
use Rattle.std.proofs.lemmas.Bool.{eq-eqb, eqb-true, ne_eqb, ltb-false, cond-true, cond-false, cond_both}
use Rattle.std.specs.List.{position, position_or_len}
use Rattle.std.proofs.lemmas.List.Quantifiers.{position-Some}
use Rattle.std.proofs.lemmas.List.Sums.{fails_before_first}
use Rattle.sheet_text.specs.Text.{cut_at, before}

cut-here : (b : ℕ) (s : List ℕ) (i : ℕ) → i < length s → ((k : ℕ) → k < i → get_or s k 0 ≡ b → ⊥) → get_or s i 0 ≡ b → cut_at b s ≡ Some (take i s, drop (suc i) s)
cut-here b [] i l none here = absurd (omega arith)
cut-here b (x ∷ s) zero l none here = cond-true _ _ _ (eq-eqb x b here)
cut-here b (x ∷ s) (suc i) l none here =
    cond-false _ _ _ (ne_eqb x b (none 0 (omega arith))) ∙ ap (before x) (cut-here b s i (omega arith) (λ k h. none (suc k) (omega arith)) here)

cut-found : (b : ℕ) (s : List ℕ) (i : ℕ) → i < length s → ((k : ℕ) → k < i → get_or s k 0 ≡ b → ⊥) → get_or s i 0 ≡ b → cut_at b s ≡ Some (take i s, take (length s - (i + 1)) (drop (i + 1) s))
cut-found b s i l none here = rw (take_rest s (i + 1), add-one) (cut-here b s i l none here)

cut-none : (b : ℕ) (s : List ℕ) → ((k : ℕ) → k < length s → get_or s k 0 ≡ b → ⊥) → cut_at b s ≡ None
cut-none b [] h = refl
cut-none b (x ∷ s) h =
    cond-false _ _ _ (ne_eqb x b (h 0 (omega arith))) ∙ ap (before x) (cut-none b s (λ k l. h (suc k) (omega arith)))

pub absent : (p : ℕ → Bool) (s : List ℕ) → position p s ≡ None → (k : ℕ) → k < length s → p (get_or s k 0) ≡ false
absent p s =
    cond_both (ltb (position_or_len p s) (length s)) (Some (position_or_len p s)) None (λ o. o ≡ None → (k : ℕ) → k < length s → p (get_or s k 0) ≡ false)
    (λ e h k l. absurd (cc))
    (λ e h k l. let far = ltb-false (position_or_len p s) (length s) e in fails_before_first p s k 0 (omega arith))

pub none_at : (b : ℕ) (s : List ℕ) → position (λ x. eqb x b) s ≡ None → (k : ℕ) → k < length s → get_or s k 0 ≡ b → ⊥
none_at b s h k l e = let f = absent (λ x. eqb x b) s h k l in let t = eq-eqb (get_or s k 0) b e in cc

pub first-at : (b : ℕ) (s : List ℕ) (i : ℕ) → position (λ x. eqb x b) s ≡ Some i → (i < length s) × (get_or s i 0 ≡ b) × ((k : ℕ) → k < i → get_or s k 0 ≡ b → ⊥)
first-at b s i h =
    let f = position-Some (λ x. eqb x b) s i 0 h in
    (f.0, eqb-true (get_or s i 0) b f.1, λ k l e. let g = f.2 k l in let t = eq-eqb (get_or s k 0) b e in cc)

pub cut_absent : (b : ℕ) (s : List ℕ) → position (λ x. eqb x b) s ≡ None → cut_at b s ≡ None
cut_absent b s h = cut-none b s (none_at b s h)

pub cut-present : (b : ℕ) (s : List ℕ) (i : ℕ) → position (λ x. eqb x b) s ≡ Some i → cut_at b s ≡ Some (take i s, take (length s - (i + 1)) (drop (i + 1) s))
cut-present b s i h = let f = first-at b s i h in cut-found b s i f.0 f.2 f.1
