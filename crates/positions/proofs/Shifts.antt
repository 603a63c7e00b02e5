-- elements of a list that are moved within it as one block
use Rattle.std.proofs.Common.{◌≡◌, ℕ, ◌+◌, ◌-◌, ◌<◌, ◌≤◌, List, ◌∷◌, ◌++◌, length, take, drop, set, arith, rules}
use lib.Seq.{paste}
use Rattle.std.proofs.lemmas.List.{same_lists, places, get_or-set_same}
use Rattle.std.proofs.lemmas.Bool.{cases_eq}

module _ {X : Type 0} (xs : List X) (n k : ℕ) where
  pub insert_list : (x : X) → k ≤ n → n < length xs → take (n + 1) (set (paste xs (k + 1) (drop k xs) (n - k)) k x) ≡ take k (take n xs) ++ (x ∷ drop k (take n xs))
  insert_list x h l = same_lists _ _ (search (rules, places)) (λ i d b. grind (arith, places, get_or-set_same, cases_eq i k))

  pub insert_rest : (x : X) → k ≤ n → n < length xs → drop (n + 1) (set (paste xs (k + 1) (drop k xs) (n - k)) k x) ≡ drop (n + 1) xs
  insert_rest x h l = same_lists _ _ (search (rules, places)) (λ i d b. grind (arith, places))

  pub set_list : (x : X) → k < n → n ≤ length xs → take n (set xs k x) ≡ take k (take n xs) ++ (x ∷ drop (k + 1) (take n xs))
  set_list x h l = same_lists _ _ (search (rules, places)) (λ i d b. grind (arith, places, get_or-set_same, cases_eq i k))

  pub set_rest : (x : X) → k < n → n ≤ length xs → drop n (set xs k x) ≡ drop n xs
  set_rest x h l = same_lists _ _ (search (rules, places)) (λ i d b. grind (arith, places))

  pub cut_list : (q : ℕ) → k ≤ q → q ≤ n → n ≤ length xs → take (k + (n - q)) (paste xs k (drop q xs) (n - q)) ≡ take k (take n xs) ++ drop q (take n xs)
  cut_list q h l m = same_lists _ _ (search (rules, places)) (λ i d b. grind (arith, places))

  pub cut-rest : (q : ℕ) → k ≤ q → q ≤ n → n ≤ length xs → drop n (paste xs k (drop q xs) (n - q)) ≡ drop n xs
  cut-rest q h l m = same_lists _ _ (search (rules, places)) (λ i d b. grind (arith, places))
