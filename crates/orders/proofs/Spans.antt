-- rows of d places each, one behind the other, and a list that changes in one of them
use Rattle.std.proofs.Common.{◌≡◌, ℕ, ◌+◌, ◌-◌, ◌*◌, ◌<◌, ◌≤◌, ◌⊎◌, List, length, take, drop, sym, ap, ◌∙◌, inl, inr, ⊎_elim, mul-le-mul_right, suc-mul, arith, rules}
use lib.Seq.{paste}
use Rattle.std.proofs.lemmas.List.{drop-take, drop-drop, take-take, same_lists, places}
use Rattle.std.proofs.lemmas.Bool.{cases_order}

-- the place of row r ends where that of row n begins, or before
pub span : (r n d : ℕ) → r < n → r * d + d ≤ n * d
span r n d h = rw (← (suc-mul r d)) (mul-le-mul_right d h)

pub span_in : (r n d m : ℕ) → r < n → n * d ≤ m → r * d + d ≤ m
span_in r n d m h l = omega (arith, span r n d h)

pub apart : (j r d : ℕ) → (j ≡ r → ⊥) → (j * d + d ≤ r * d) ⊎ (r * d + d ≤ j * d)
apart j r d ne = ⊎_elim (λ e. absurd (ne e)) (⊎_elim (λ h. inl (span j r d h)) (λ h. inr (span r j d h))) (cases_order j r)

module _ {X : Type 0} (xs ys : List X) (a b n : ℕ) where
  -- a part in front of place a
  pub below-same : b + n ≤ a → take a ys ≡ take a xs → take n (drop b ys) ≡ take n (drop b xs)
  below-same h t =
      let u : take (b + n) ys ≡ take (b + n) xs = sym (take-take (b + n) a ys h) ∙ (ap (take (b + n)) t ∙ take-take (b + n) a xs h) in
      sym (drop-take b n ys) ∙ (ap (drop b) u ∙ drop-take b n xs)

  -- a part behind it
  pub above_same : a ≤ b → drop a ys ≡ drop a xs → take n (drop b ys) ≡ take n (drop b xs)
  above_same h t =
      let e : a + (b - a) ≡ b = omega arith in
      let u : drop b ys ≡ drop b xs = ap (λ k. drop k ys) (sym e) ∙ (sym (drop-drop (b - a) a ys) ∙ (ap (drop (b - a)) t ∙ (drop-drop (b - a) a xs ∙ ap (λ k. drop k xs) e))) in
      ap (take n) u

module _ {X : Type 0} (xs : List X) (a b n : ℕ) (k : ℕ) (e : k ≡ n) (h : b + n ≤ length xs) (l : a + n ≤ length xs) where
  -- n elements from b on, copied to a
  pub copied_length : length (paste xs a (drop b xs) k) ≡ length xs
  copied_length = search (rules, places)

  pub copied_here : take n (drop a (paste xs a (drop b xs) k)) ≡ take n (drop b xs)
  copied_here = same_lists _ _ (search (rules, places)) (λ j d i. grind (arith, places))

  pub copied_below : take a (paste xs a (drop b xs) k) ≡ take a xs
  copied_below = same_lists _ _ (search (rules, places)) (λ j d i. grind (arith, places))

  pub copied_above : (m : ℕ) → a + n ≤ m → drop m (paste xs a (drop b xs) k) ≡ drop m xs
  copied_above m f = same_lists _ _ (search (rules, places)) (λ j d i. grind (arith, places))
