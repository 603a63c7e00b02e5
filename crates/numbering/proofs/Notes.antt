-- What a note does to the figures of a stream.
use Rattle.std.proofs.Common.{◌≡◌, ℕ, ◌+◌, ◌^◌, ◌<◌, Bool, true, false, cond, not, ◌&&◌, eqb, ltb, leb, List, [], ◌∷◌, Some, None, Option, sym, refl, ap, ◌∙◌, ⊎_elim, arith}
use Rattle.std.proofs.lemmas.Bool.{cases_Bool, both_ways, or_left, or_right, or_cases, or_from, eqb-true, eq-eqb, lt-ltb, le-ltb}
use Rattle.numbering.specs.declared.seen.Seen.{Seen}
use Rattle.numbering.specs.declared.seen.Seen.TheVariants.{New, Repeated, Late}
use Rattle.numbering.specs.Answer.{Answer, Lowest, Highest}
use Rattle.numbering.specs.Members.{Missing, lacking}
use Rattle.numbering.specs.Streams.{came_in, higher_in, repeats, lates}
use Rattle.numbering.proofs.Counts.{count_same}

higher_since : (before : List ℕ) (n m : ℕ) → n < m → came_in before m ≡ true → higher_in before n ≡ true
higher_since [] n m lt e = absurd (both_ways false refl e)
higher_since (x ∷ before) n m lt e =
    ⊎_elim
    (λ (h : eqb m x ≡ true). or_left (ltb n x) (higher_in before n) (lt-ltb n x (omega (arith, eqb-true m x h))))
    (λ (h : came_in before m ≡ true). or_right (ltb n x) (higher_in before n) (higher_since before n m lt h))
    (or_cases (eqb m x) (came_in before m) e)

none_higher : (before : List ℕ) (n : ℕ) → ((m : ℕ) → came_in before m ≡ true → m < n) → higher_in before n ≡ false
none_higher [] n all = refl
none_higher (x ∷ before) n all =
    or_from (ltb n x) (higher_in before n)
    (le-ltb n x (omega (arith, all x (or_left (eqb x x) (came_in before x) (eq-eqb x x refl)))))
    (none_higher before n (λ m h. all m (or_right (eqb m x) (came_in before m) h)))

-- by how much the two counts grow
abbrev pub repeated_by : Seen → ℕ
repeated_by New = 0
repeated_by Repeated = 1
repeated_by Late = 0

abbrev pub late_by : Seen → ℕ
late_by New = 0
late_by Repeated = 0
late_by Late = 1

both_grow : (came higher : Bool) (r l : ℕ) (s : Seen) → (came ≡ true) × (s ≡ Repeated) → (r + cond came 1 0 ≡ r + repeated_by s) × (l + cond (not came && higher) 1 0 ≡ l + late_by s)
both_grow true higher r l s e = (ap (λ x. r + repeated_by x) (sym e.1), ap (λ x. l + late_by x) (sym e.1))
both_grow false higher r l s e = absurd (both_ways false refl e.0)

grow_fresh : (came higher : Bool) (r l k : ℕ) → came ≡ false → cond higher 1 0 ≡ k → (r + cond came 1 0 ≡ r + 0) × (l + cond (not came && higher) 1 0 ≡ l + k)
grow_fresh true higher r l k e f = absurd (both_ways true e refl)
grow_fresh false higher r l k e f = (refl, ap (λ x. l + x) f)

pub grows :
    (before : List ℕ) (n : ℕ) (s : Seen) → Answer (came_in before) n s
    → (repeats (n ∷ before) ≡ repeats before + repeated_by s) × (lates (n ∷ before) ≡ lates before + late_by s)
grows before n Repeated answer = both_grow (came_in before n) (higher_in before n) (repeats before) (lates before) Repeated (answer, refl)
grows before n Late answer =
    grow_fresh (came_in before n) (higher_in before n) (repeats before) (lates before) 1 answer.0
    (ap (λ (b : Bool). cond b 1 0) (higher_since before n answer.1.0 answer.1.1 answer.1.2))
grows before n New answer =
    grow_fresh (came_in before n) (higher_in before n) (repeats before) (lates before) 0
    (⊎_elim (λ (h : came_in before n ≡ true). absurd (omega (arith, answer n h))) (λ (h : came_in before n ≡ false). h) (cases_Bool (came_in before n)))
    (ap (λ (b : Bool). cond b 1 0) (none_higher before n answer))

-- answers about a test hold of one that agrees with it
pub answer_like : (f g : ℕ → Bool) (n : ℕ) (s : Seen) → ((m : ℕ) → f m ≡ g m) → Answer f n s → Answer g n s
answer_like f g n New same answer = λ m h. answer m (same m ∙ h)
answer_like f g n Repeated same answer = sym (same n) ∙ answer
answer_like f g n Late same answer = (sym (same n) ∙ answer.0, (answer.1.0, answer.1.1, sym (same answer.1.0) ∙ answer.1.2))

pub lowest_like : (f g : ℕ → Bool) (r : Option ℕ) → ((m : ℕ) → f m ≡ g m) → Lowest f r → Lowest g r
lowest_like f g None same low = λ m. sym (same m) ∙ low m
lowest_like f g (Some a) same low = (sym (same a) ∙ low.0, λ m h. low.1 m (same m ∙ h))

pub highest_like : (f g : ℕ → Bool) (r : Option ℕ) → ((m : ℕ) → f m ≡ g m) → Highest f r → Highest g r
highest_like f g None same high = λ m. sym (same m) ∙ high m
highest_like f g (Some a) same high = (sym (same a) ∙ high.0, λ m h. high.1 m (same m ∙ h))

pub missing_like : (f g : ℕ → Bool) (r : ℕ) → ((m : ℕ) → f m ≡ g m) → Missing f r → Missing g r
missing_like f g r same missing =
    let back : (m : ℕ) → g m ≡ f m = λ m. sym (same m) in (
      λ none. missing.0 (λ m. same m ∙ none m),
      λ a b low high.
          missing.1 a b (lowest_like g f (Some a) back low) (highest_like g f (Some b) back high)
          ∙ count_same (lacking f a b) (lacking g a b) (2 ^ 32) (λ m lt. ap (λ t. (leb a m && leb m b) && not t) (same m)),
    )
