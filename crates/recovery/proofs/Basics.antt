-- Case splits on what a step tests.
use Rattle.std.proofs.Common.{◌≡◌, ℕ, Bool, true, false, cond, not, ltb, leb, sym, refl, ap, ◌∙◌, arith}
use Rattle.std.proofs.lemmas.Bool.{ltb-true, ltb-false, lt-leb, le-leb}

-- two conds on equal tests
pub cond_two : {A B : Type 0} (R : A → B → Type 0) (b b' : Bool) → b ≡ b' → (x y : A) (x' y' : B) → (b ≡ true → R x x') → (b ≡ false → R y y') → R (cond b x y) (cond b' x' y')
cond_two R true true e x y x' y' f g = f refl
cond_two R false false e x y x' y' f g = g refl
cond_two R true false e x y x' y' f g = let z : ◌≡◌ {A = ℕ} 0 1 = ap (λ b. cond b 0 1) e in absurd (omega (arith, z))
cond_two R false true e x y x' y' f g = let z : ◌≡◌ {A = ℕ} 1 0 = ap (λ b. cond b 0 1) e in absurd (omega (arith, z))

-- by cases on a test, with what it came to
pub by_test : {X : Type 0} (b : Bool) → (b ≡ true → X) → (b ≡ false → X) → X
by_test true f g = f refl
by_test false f g = g refl

-- a test and its opposite
pub ltb_not : (a b : ℕ) → ltb a b ≡ not (leb b a)
ltb_not a b = by_test (ltb a b) (λ t. t ∙ sym (ap not (lt-leb b a (ltb-true a b t)))) (λ t. t ∙ sym (ap not (le-leb b a (ltb-false a b t))))
