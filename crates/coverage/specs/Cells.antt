-- Cells before and after those of some places are written, and before and after each two are joined to one.
use Rattle.std.specs.Prelude.{◌≡◌, ℕ, ◌+◌, ◌*◌, ◌<◌, ◌≤◌, max, List, slice_index}

-- the cells from one place to before another are what a function of the place says, the others as they were
pub record Filled (f : ℕ → ℕ) (before after : List ℕ) (from end : ℕ) : Type 0 where
  pub below : (k : ℕ) → k < from → slice_index after k ≡ slice_index before k
  pub inside : (k : ℕ) → from ≤ k → k < end → slice_index after k ≡ f k
  pub above : (k : ℕ) → end ≤ k → slice_index after k ≡ slice_index before k

-- the cells of some places are at least at a level
abbrev pub Lifted : List ℕ → List ℕ → ℕ → ℕ → ℕ → Type 0
Lifted before after from end level = Filled (λ k. max (slice_index before k) level) before after from end

-- the higher of two neighbours
abbrev pub higher_of_two : List ℕ → ℕ → ℕ
higher_of_two cells k = max (slice_index cells (2 * k)) (slice_index cells (2 * k + 1))

-- each cell of the lower half is the higher of two, and the upper half is 0
pub record Halved (before after : List ℕ) : Type 0 where
  pub lower : (k : ℕ) → k < 512 → slice_index after k ≡ higher_of_two before k
  pub upper : (k : ℕ) → 512 ≤ k → k < 1024 → slice_index after k ≡ 0
