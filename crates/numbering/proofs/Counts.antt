-- Counting the numbers below a bound.
use Rattle.std.proofs.Common.{◌≡◌, ℕ, zero, suc, ◌+◌, ◌-◌, ◌<◌, ◌≤◌, Bool, true, false, cond, not, ◌&&◌, ◌||◌, eqb, leb, sym, refl, ap, ◌∙◌, ⊎_elim, arith}
use Rattle.std.proofs.lemmas.Bool.Decides.{nat_tests}
use Rattle.std.proofs.lemmas.Bool.{cases_eq, cases_lt}
use Rattle.numbering.specs.Counting.{count}

pub count_most : (f : ℕ → Bool) (n : ℕ) → count f n ≤ n
unfolding count
count_most f zero = omega arith
count_most f (suc k) =
    let h = count_most f k in
    elim (f k) as (λ b. count f k + cond b 1 0 ≤ suc k) [ true ↦ omega arith | false ↦ omega arith ]

pub count_same : (f g : ℕ → Bool) (n : ℕ) → ((m : ℕ) → m < n → f m ≡ g m) → count f n ≡ count g n
unfolding count
count_same f g zero same = refl
count_same f g (suc k) same =
    let h = count_same f g k (λ m lt. same m (omega arith)) in
    let e = same k (omega arith) in
    cc

pub count_none : (f : ℕ → Bool) (n : ℕ) → ((m : ℕ) → f m ≡ false) → count f n ≡ 0
unfolding count
count_none f zero none = refl
count_none f (suc k) none =
    let h = count_none f k none in
    let e : cond {A = ℕ} (f k) 1 0 ≡ 0 = ap (λ (b : Bool). cond b 1 0) (none k) in
    omega arith

-- one number more
pub count-more :
    (f g : ℕ → Bool) (x n : ℕ) → x < n → f x ≡ false → ((m : ℕ) → g m ≡ (eqb m x || f m)) → count g n ≡ count f n + 1
unfolding count
count-more f g x zero lt out same = absurd (omega arith)
count-more f g x (suc k) lt out same =
    ⊎_elim
    (λ (e : k ≡ x).
    let below = count_same g f k (λ m l. same m ∙ grind (arith, nat_tests)) in
    let here : g k ≡ true = same k ∙ grind (arith, nat_tests) in
    let there : f k ≡ false = ap f e ∙ out in
    let a : cond {A = ℕ} (g k) 1 0 ≡ 1 = ap (λ (b : Bool). cond b 1 0) here in
    let c : cond {A = ℕ} (f k) 1 0 ≡ 0 = ap (λ (b : Bool). cond b 1 0) there in
    omega arith)
    (λ (ne : k ≡ x → ⊥).
    let l : x < k = grind arith in
    let below = count-more f g x k l out same in
    let here : g k ≡ f k = same k ∙ grind (arith, nat_tests) in
    let a : cond {A = ℕ} (g k) 1 0 ≡ cond (f k) 1 0 = ap (λ (b : Bool). cond b 1 0) here in
    omega arith)
    (cases_eq k x)

one_of_two : (f g : Bool) → (f ≡ true → g ≡ true) → cond f 1 0 + cond (g && not f) 1 0 ≡ cond g 1 0
one_of_two true true h = refl
one_of_two true false h = let e : true ≡ false = sym (h refl) in let z : ◌≡◌ {A = ℕ} 0 1 = cc in absurd (omega arith)
one_of_two false true h = refl
one_of_two false false h = refl

-- what a test passes, and what only a wider one passes
pub count-split :
    (f g : ℕ → Bool) (n : ℕ) → ((m : ℕ) → f m ≡ true → g m ≡ true) → count f n + count (λ m. g m && not (f m)) n ≡ count g n
unfolding count
count-split f g zero wide = refl
count-split f g (suc k) wide =
    let below = count-split f g k wide in
    let here = one_of_two (f k) (g k) (wide k) in
    omega arith

-- how many numbers from `a` lie below a bound that is no higher than `b`
count-from : (a b n : ℕ) → n ≤ b + 1 → count (λ m. leb a m && leb m b) n ≡ n - a
unfolding count
count-from a b zero le = omega arith
count-from a b (suc k) le =
    let below = count-from a b k (omega arith) in
    ⊎_elim
    (λ (h : k < a).
    let here : (leb a k && leb k b) ≡ false = grind (arith, nat_tests) in
    let c : cond {A = ℕ} (leb a k && leb k b) 1 0 ≡ 0 = ap (λ (t : Bool). cond t 1 0) here in
    omega arith)
    (λ (h : a ≤ k).
    let here : (leb a k && leb k b) ≡ true = grind (arith, nat_tests) in
    let c : cond {A = ℕ} (leb a k && leb k b) 1 0 ≡ 1 = ap (λ (t : Bool). cond t 1 0) here in
    omega arith)
    (cases_lt k a)

-- how many numbers lie between two, both among them
pub count_between : (a b n : ℕ) → a ≤ b → b < n → count (λ m. leb a m && leb m b) n ≡ (b - a) + 1
unfolding count
count_between a b zero le lt = absurd (omega arith)
count_between a b (suc k) le lt =
    ⊎_elim
    (λ (h : b < k).
    let below = count_between a b k le h in
    let here : (leb a k && leb k b) ≡ false = grind (arith, nat_tests) in
    let c : cond {A = ℕ} (leb a k && leb k b) 1 0 ≡ 0 = ap (λ (t : Bool). cond t 1 0) here in
    omega arith)
    (λ (h : k ≤ b). count-from a b (suc k) (omega arith) ∙ omega arith)
    (cases_lt b k)
