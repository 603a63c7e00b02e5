-- The numbers of words that come one by one: those so far, and those of the words that are left.
use Rattle.std.proofs.Common.{◌≡◌, ℕ, List, [], ◌∷◌, ◌++◌, Some, None, Option, sym, refl, ap, ◌∙◌, subst, append_assoc, append-nil}
use Rattle.std.proofs.lemmas.Iterator.{YieldsList}
use Rattle.sheet_text.specs.Text.{and_then}
use Rattle.commands.specs.Decimal.{decimal_of, decimals}

-- numbers, and those behind them, if there are such
abbrev pub onto_all : List ℕ → Option (List ℕ) → Option (List ℕ)
onto_all ns o = and_then o (λ ms. Some (ns ++ ms))

one_more : (ns : List ℕ) (n : ℕ) (o : Option (List ℕ)) → onto_all (ns ++ n ∷ []) o ≡ onto_all ns (and_then o (λ ms. Some (n ∷ ms)))
one_more ns n None = refl
one_more ns n (Some ms) = ap (λ (l : List ℕ). Some l) (append_assoc ns (n ∷ []) ms)

-- at first there are none
pub onto_none : (ns : List ℕ) (o : Option (List ℕ)) → ns ≡ [] → onto_all ns o ≡ o
onto_none ns o e = ap (λ (l : List ℕ). onto_all l o) e ∙ alone o
  where
    alone : (o : Option (List ℕ)) → onto_all [] o ≡ o
    alone None = refl
    alone (Some ms) = refl

module _ {S A : Type 0} (steps : S → Option A → S → Type 0) (v : A → List ℕ) where
  abbrev pub Left : List ℕ → S → Option (List ℕ) → Type 0
  Left ns s all = (rest : List (List ℕ)) × YieldsList steps v s rest × (onto_all ns (decimals rest) ≡ all)

  first :
      (ns : List ℕ) (s t : S) (x : A) (all : Option (List ℕ)) → steps s (Some x) t → Left ns s all
      → (rest : List (List ℕ)) × YieldsList steps v t rest × (onto_all ns (and_then (decimal_of (v x)) (λ n. and_then (decimals rest) (λ ms. Some (n ∷ ms)))) ≡ all)
  first ns s t x all h ([], yields, e) = absurd (yields.runs x t h)
  first ns s t x all h (y ∷ ys, yields, e) =
      let now = yields.runs.1 x t h in
      let P : List ℕ → Type 0 = λ w. onto_all ns (and_then (decimal_of w) (λ n. and_then (decimals ys) (λ ms. Some (n ∷ ms)))) ≡ all in
      (ys, record { runs = now.1 }, subst P (sym now.0) e)

  pub left-more :
      (ns ms : List ℕ) (n : ℕ) (s t : S) (x : A) (r : Option A) (all : Option (List ℕ)) → r ≡ Some x → steps s r t → decimal_of (v x) ≡ Some n → ms ≡ ns ++ n ∷ []
      → Left ns s all → Left ms t all
  left-more ns ms n s t x r all came h number more left =
      let f = first ns s t x all (subst (λ (o : Option A). steps s o t) came h) left in
      let P : Option ℕ → Type 0 = λ o. onto_all ns (and_then o (λ m. and_then (decimals f.0) (λ l. Some (m ∷ l)))) ≡ all in
      (f.0, f.1, ap (λ (l : List ℕ). onto_all l (decimals f.0)) more ∙ (one_more ns n (decimals f.0) ∙ subst P number f.2))

  pub left-none :
      (ns : List ℕ) (s t : S) (x : A) (r : Option A) (all : Option (List ℕ)) → r ≡ Some x → steps s r t → decimal_of (v x) ≡ None → Left ns s all → None ≡ all
  left-none ns s t x r all came h none left =
      let f = first ns s t x all (subst (λ (o : Option A). steps s o t) came h) left in
      let P : Option ℕ → Type 0 = λ o. onto_all ns (and_then o (λ m. and_then (decimals f.0) (λ l. Some (m ∷ l)))) ≡ all in
      subst P none f.2

  pub left-all : (ns : List ℕ) (s t : S) (r : Option A) (all : Option (List ℕ)) → r ≡ None → steps s r t → Left ns s all → Some ns ≡ all
  left-all ns s t r all came h ([], yields, e) = simp append-nil at e
  left-all ns s t r all came h (y ∷ ys, yields, e) = absurd (yields.runs.0 t (subst (λ (o : Option A). steps s o t) came h))
