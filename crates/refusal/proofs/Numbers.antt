-- Reasons that stand by their numbers.
use Rattle.std.proofs.Common.{◌≡◌, ℕ, zero, suc, ◌+◌, ◌<◌, Bool, true, ◌&&◌, eqb, List, [], ◌∷◌, get_or, arith}
use Rattle.std.proofs.lemmas.Bool.{eqb-true, and_parts}
use Rattle.refusal.specs.declared.Reason.{Reason}
use Rattle.refusal.specs.Reasons.{number_of}

-- the reasons have the numbers from n on, to before m
abbrev pub numbered : ℕ → ℕ → List Reason → Bool
numbered n m [] = eqb n m
numbered n m (r ∷ rs) = eqb (number_of r) n && numbered (suc n) m rs

pub number_at : (n m : ℕ) (rs : List Reason) (i : ℕ) (d : Reason) (k : ℕ) → n + i < m → n + i ≡ k → numbered n m rs ≡ true → number_of (get_or rs i d) ≡ k
number_at n m [] i d k l f e =
    let b = eqb-true n m e in
    absurd (omega arith)
number_at n m (r ∷ rs) zero d k l f e =
    let b = eqb-true (number_of r) n (and_parts (eqb (number_of r) n) (numbered (suc n) m rs) e).0 in
    omega arith
number_at n m (r ∷ rs) (suc i) d k l f e =
    number_at (suc n) m rs i d k (omega arith) (omega arith) (and_parts (eqb (number_of r) n) (numbered (suc n) m rs) e).1
