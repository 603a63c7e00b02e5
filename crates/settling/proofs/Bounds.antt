-- A bound of each element of a list.
use Rattle.std.proofs.Common.{◌≡◌, ℕ, zero, suc, ◌<◌, ◌≤◌, List, length, get_or, set, replicate, sym, ap, ◌∙◌, subst, ⊎_elim, arith}
use Rattle.std.proofs.lemmas.List.{get_or-set_same, get_or-set_other}
use Rattle.std.proofs.lemmas.Bool.{cases_eq}

pub zeros : (n p b : ℕ) → get_or (replicate n 0) p 0 ≤ b
zeros zero p b = omega arith
zeros (suc n) zero b = omega arith
zeros (suc n) (suc p) b = zeros n p b

-- a bound stays, with one more element within it
pub bounded : (l : List ℕ) (i v b : ℕ) → i < length l → v ≤ b → ((p : ℕ) → get_or l p 0 ≤ b) → (p : ℕ) → get_or (set l i v) p 0 ≤ b
bounded l i v b lt le all p = ⊎_elim
    (λ (e : p ≡ i). subst (λ x. x ≤ b) (sym (ap (λ k. get_or (set l i v) k 0) e ∙ get_or-set_same l i v 0 lt)) le)
    (λ (d : p ≡ i → ⊥). subst (λ x. x ≤ b) (sym (get_or-set_other l i p v 0 d)) (all p))
    (cases_eq p i)

pub same_up : (n b j : ℕ) → get_or (replicate n b) j 0 ≤ b
same_up zero b j = omega arith
same_up (suc n) b zero = omega arith
same_up (suc n) b (suc j) = same_up n b j
