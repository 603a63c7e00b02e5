-- The numbers that decide where something is drawn.
use Rattle.std.specs.Prelude.{◌≡◌, ℕ, ◌+◌, ◌*◌, ◌/◌, ◌^◌, ◌<◌, ◌≤◌, min, ◌⊎◌, List, length, ◌≢◌, slice_index}

-- a part of a whole on a scale, rounded down: the whole is the full scale, and so is more than the whole; a whole of 0 is nothing
pub record Scaled (part whole scale r : ℕ) : Type 0 where
  pub none : whole ≡ 0 → r ≡ 0
  pub low : r * whole ≤ min part whole * scale
  pub high : 0 < whole → min part whole * scale < (r + 1) * whole

-- the round numbers are 1, 2 and 5 times a power of ten: one, and the next
abbrev pub Next : ℕ → ℕ → Type 0
Next s r =
    (e : ℕ) × (((s ≡ 10 ^ e) × (r ≡ 2 * 10 ^ e)) ⊎ (((s ≡ 2 * 10 ^ e) × (r ≡ 5 * 10 ^ e)) ⊎ ((s ≡ 5 * 10 ^ e) × (r ≡ 10 ^ (e + 1)))))

-- the smallest round number that goes at most ten times into a number
pub record Step (n r : ℕ) : Type 0 where
  pub few : n / r ≤ 10
  pub least : (r ≡ 1) ⊎ ((s : ℕ) × Next s r × (10 < n / s))

-- the cells from a place on that are like the one there end before r
pub record RunOf (cells : List ℕ) (from r : ℕ) : Type 0 where
  pub alike : (k : ℕ) → from ≤ k → k < r → slice_index cells k ≡ slice_index cells from
  pub ends : (r ≡ length cells) ⊎ ((r < length cells) × (slice_index cells r ≢ slice_index cells from))
  pub goes : from < length cells → from < r
