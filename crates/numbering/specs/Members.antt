-- Which numbers came, and how many between the lowest and the highest did not.
use Rattle.std.specs.Prelude.{◌≡◌, ℕ, ◌^◌, Bool, false, not, ◌&&◌, Some, vec_items, nat_le}
use Rattle.numbering.specs.declared.numbers.Numbers.{Numbers}
use Rattle.numbering.specs.Spans.{held}
use Rattle.numbering.specs.Counting.{count}
use Rattle.numbering.specs.Answer.{Lowest, Highest}

abbrev pub has : Numbers → ℕ → Bool
has s m = held (vec_items s.spans.list) m

-- the numbers from `a` to `b` that did not come
abbrev pub lacking : (ℕ → Bool) → ℕ → ℕ → ℕ → Bool
lacking f a b m = (nat_le a m && nat_le m b) && not (f m)

abbrev pub Missing : (ℕ → Bool) → ℕ → Type 0
Missing f r =
    (((m : ℕ) → f m ≡ false) → r ≡ 0)
    × ((a b : ℕ) → Lowest f (Some a) → Highest f (Some b) → r ≡ count (lacking f a b) (2 ^ 32))
