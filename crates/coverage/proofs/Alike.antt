-- A run of like cells ends at the first cell that differs, or at the last cell.
use Rattle.std.proofs.Common.{◌≡◌, ◌≢◌, ℕ, ◌+◌, ◌-◌, ◌<◌, ◌≤◌, List, length, get_or, drop, Some, None, Option, MatchOption, sym, refl, ap, ◌∙◌, subst, inl, inr, ⊎_elim, arith, length-drop}
use Rattle.std.specs.List.{AllWithin, HoldsAt}
use Rattle.std.specs.Option.{option_map_or}
use Rattle.std.proofs.lemmas.List.{get_or-drop}
use Rattle.std.proofs.lemmas.Bool.{cases_lt}
use Rattle.coverage.specs.Geometry.{RunOf}

module _ (cells : List ℕ) (from first : ℕ) (lt : from < length cells) (is : first ≡ get_or cells from 0) where
  run_to :
      (end : ℕ) → from ≤ end → ((k : ℕ) → k < end - from → get_or (drop from cells) k 0 ≡ first)
      → (k : ℕ) → from ≤ k → k < end → get_or cells k 0 ≡ get_or cells from 0
  run_to end le alike k h g =
      let at : from + (k - from) ≡ k = omega arith in
      ap (λ (i : ℕ). get_or cells i 0) (sym at) ∙ (sym (get_or-drop from cells (k - from) 0) ∙ (alike (k - from) (omega arith) ∙ is))

  pub run_of :
      (o : Option ℕ) (r : ℕ) → r ≡ option_map_or (λ i. from + i) o (length cells)
      → MatchOption o (AllWithin (λ x. x ≡ first) (drop from cells) 0 (length (drop from cells)))
      (λ i. (i < length (drop from cells)) × HoldsAt (λ x. x ≢ first) (drop from cells) i × AllWithin (λ x. x ≡ first) (drop from cells) 0 i)
      → RunOf cells from r
  run_of None r e all =
      let P : ℕ → Type 0 = λ n. RunOf cells from n in
      subst P (sym e)
      (record {
        alike = run_to (length cells) (omega arith) (λ k h. all k 0 (omega arith) (omega (arith, length-drop from cells)));
        ends = inl refl;
        goes = λ h. h;
      })
  run_of (Some i) r e found =
      let P : ℕ → Type 0 = λ n. RunOf cells from n in
      let here : i < length cells - from = omega (arith, found.0, length-drop from cells) in
      subst P (sym e)
      (record {
        alike = run_to (from + i) (omega arith) (λ k h. found.2 k 0 (omega arith) (omega arith));
        ends = inr (omega arith, λ same. found.1 0 (get_or-drop from cells i 0 ∙ (same ∙ sym is)));
        goes = λ h. further i found.1;
      })
    where
      further : (i : ℕ) → HoldsAt (λ x. x ≢ first) (drop from cells) i → from < from + i
      further i other =
          ⊎_elim (λ (some : 0 < i). omega arith)
          (λ (none : i ≤ 0).
          let here : from + i ≡ from = omega arith in
          absurd (other 0 (get_or-drop from cells i 0 ∙ (ap (λ (n : ℕ). get_or cells n 0) here ∙ sym is))))
          (cases_lt 0 i)
