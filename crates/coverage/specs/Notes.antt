-- What was noted of numbers, and which level a column of numbers has by that.
use Rattle.std.specs.Prelude.{◌≡◌, ℕ, ◌/◌, ◌<◌, ◌≤◌, cond, ◌⊎◌, List, [], ◌∷◌, nat_le, slice_index}

-- a level, noted at each number from the low to the high one
pub record Note : Type 0 where
  pub low : ℕ
  pub high : ℕ
  pub level : ℕ

abbrev pub At : Note → ℕ → ℕ → Type 0
At note n level = (note.low ≤ n) × (n ≤ note.high) × (level ≡ note.level)

-- a level was noted at a number
abbrev pub Noted : List Note → ℕ → ℕ → Type 0
Noted [] n level = ⊥
Noted (note ∷ notes) n level = At note n level ⊎ Noted notes n level

-- the highest of the levels noted at the numbers of a column: no higher one was, and it was itself, unless it is 0
pub record Highest (notes : List Note) (width column level : ℕ) : Type 0 where
  pub bound : (n m : ℕ) → Noted notes n m → n / width ≡ column → m ≤ level
  pub reached : (level ≡ 0) ⊎ ((n : ℕ) × (n / width ≡ column) × Noted notes n level)

-- 1,024 columns hold all that was noted, each by its highest level
pub record Tells (notes : List Note) (width : ℕ) (cells : List ℕ) : Type 0 where
  pub within : (n m : ℕ) → Noted notes n m → n / width < 1024
  pub columns : (k : ℕ) → k < 1024 → Highest notes width k (slice_index cells k)

-- one note more, unless it has no number
abbrev pub noting : ℕ → ℕ → ℕ → List Note → List Note
noting low high level notes = cond (nat_le low high) (record { low = low; high = high; level = level } ∷ notes) notes
