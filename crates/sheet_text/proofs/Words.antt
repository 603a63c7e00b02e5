-- A word that has the bytes of another, one by one, is that word.
use Rattle.std.proofs.Common.{◌≡◌, ◌≤◌, ℕ, suc, List, [], ◌∷◌, length, get_or, refl, arith}

-- the bytes of a word from a place on
abbrev pub Spells : List ℕ → List ℕ → ℕ → Type 0
Spells [] w i = length w ≡ i
Spells (b ∷ bs) w i = (get_or w i 0 ≡ b) × Spells bs w (suc i)

behind : (bs w : List ℕ) (x i : ℕ) → Spells bs (x ∷ w) (suc i) → Spells bs w i
behind [] w x i h = omega arith
behind (b ∷ bs) w x i h = (h.0, behind bs w x (suc i) h.1)

within : (bs w : List ℕ) (i : ℕ) → Spells bs w i → i ≤ length w
within [] w i h = omega arith
within (b ∷ bs) w i h = let le = within bs w (suc i) h.1 in omega arith

pub spelled : (bs w : List ℕ) → Spells bs w 0 → w ≡ bs
spelled [] [] h = refl
spelled [] (x ∷ w) h = cc
spelled (b ∷ bs) [] h = let le = within bs [] 1 h.1 in absurd (omega arith)
spelled (b ∷ bs) (x ∷ w) h = let e = spelled bs w (behind bs w x 0 h.1) in let f : x ≡ b = h.0 in cc
