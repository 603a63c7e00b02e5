-- What a number is to the numbers that came before it, and the ends of those numbers; `f` tells whether a number came.
use Rattle.std.specs.Prelude.{◌≡◌, ℕ, ◌<◌, ◌≤◌, Bool, true, false, Some, None, Option}
use Rattle.numbering.specs.declared.seen.Seen.{Seen}
use Rattle.numbering.specs.declared.seen.Seen.TheVariants.{New, Repeated, Late}

-- repeated: it came before; late: it did not, and a higher one came; new: every one that came is lower
abbrev pub Answer : (ℕ → Bool) → ℕ → Seen → Type 0
Answer f n New = (m : ℕ) → f m ≡ true → m < n
Answer f n Repeated = f n ≡ true
Answer f n Late = (f n ≡ false) × ((m : ℕ) × (n < m) × (f m ≡ true))

abbrev pub Lowest : (ℕ → Bool) → Option ℕ → Type 0
Lowest f None = (m : ℕ) → f m ≡ false
Lowest f (Some a) = (f a ≡ true) × ((m : ℕ) → f m ≡ true → a ≤ m)

abbrev pub Highest : (ℕ → Bool) → Option ℕ → Type 0
Highest f None = (m : ℕ) → f m ≡ false
Highest f (Some b) = (f b ≡ true) × ((m : ℕ) → f m ≡ true → m ≤ b)
