-- A number at an offset is the number at the front of what is left.
use Rattle.std.proofs.Common.{◌≡◌, ℕ, zero, suc, ◌+◌, ◌≤◌, leb, List, length, drop, refl, ap, ◌∙◌, add-zero, add_assoc, arith, length-drop}
use Rattle.std.proofs.lemmas.List.{get_or-drop}
use Rattle.std.proofs.lemmas.Bool.Decides.{nat_tests}
use Rattle.layout.specs.Wire.{le_at, number_at}

pub le_at-drop : (n : ℕ) (bs : List ℕ) (i w : ℕ) → le_at (drop n bs) i w ≡ le_at bs (n + i) w
le_at-drop n bs i zero = refl
le_at-drop n bs i (suc w) = rw (get_or-drop n bs i 0, le_at-drop n bs (i + 1) w, ← add_assoc)

pub number_at_drop : (n : ℕ) (bs : List ℕ) (w : ℕ) → n ≤ length bs → number_at (drop n bs) 0 w ≡ number_at bs n w
number_at_drop n bs w h =
    let long = length-drop n bs in
    let same : leb (0 + w) (length (drop n bs)) ≡ leb (n + w) (length bs) = grind (arith, nat_tests) in
    let value : le_at (drop n bs) 0 w ≡ le_at bs n w = le_at-drop n bs 0 w ∙ ap (λ k. le_at bs k w) (add-zero n) in
    rw (same, value)
