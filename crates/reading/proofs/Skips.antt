-- Bytes at the front of a list that are let go of by moving the others to the front.
use Rattle.std.proofs.Common.{◌≡◌, ℕ, ◌-◌, ◌≤◌, min, List, length, take, drop, arith, rules}
use lib.Seq.{paste}
use Rattle.std.proofs.lemmas.List.{same_lists, places}

pub skipped : (xs : List ℕ) (h used u : ℕ) → h ≤ length xs → u ≡ min used h → take (h - u) (paste xs 0 (drop u xs) (h - u)) ≡ drop used (take h xs)
skipped xs h used u b e = same_lists _ _ (search (rules, places)) (λ i d l. grind (arith, places))
