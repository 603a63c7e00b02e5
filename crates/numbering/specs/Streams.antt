-- The figures of a stream by the list of the numbers that came, the latest first.
use Rattle.std.specs.Prelude.{◌≡◌, ℕ, ◌+◌, ◌-◌, ◌^◌, min, Bool, false, cond, not, ◌&&◌, ◌||◌, List, [], ◌∷◌, length, ◌==◌, nat_lt}
use Rattle.numbering.specs.declared.stream.Stream.{Stream}
use Rattle.numbering.specs.Members.{has}

-- whether a number came
abbrev pub came_in : List ℕ → ℕ → Bool
came_in [] m = false
came_in (n ∷ before) m = m == n || came_in before m

-- whether a higher one than `m` came
abbrev pub higher_in : List ℕ → ℕ → Bool
higher_in [] m = false
higher_in (n ∷ before) m = nat_lt m n || higher_in before m

-- how many came that had come before
abbrev pub repeats : List ℕ → ℕ
repeats [] = 0
repeats (n ∷ before) = repeats before + cond (came_in before n) 1 0

-- how many came that had not, behind a higher one
abbrev pub lates : List ℕ → ℕ
lates [] = 0
lates (n ∷ before) = lates before + cond (not (came_in before n) && higher_in before n) 1 0

-- a count, up to the largest
abbrev pub capped : ℕ → ℕ
capped n = min n (2 ^ 64 - 1)

-- a stream stands behind the numbers that came
pub record Stands (s : Stream) (came : List ℕ) : Type 0 where
  pub members : (m : ℕ) → has s.numbers m ≡ came_in came m
  pub packets : s.packets ≡ capped (length came)
  pub repeated : s.repeated ≡ capped (repeats came)
  pub late : s.late ≡ capped (lates came)
