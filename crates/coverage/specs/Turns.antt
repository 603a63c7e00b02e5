-- The turns of an instrument's book: from a number on it has a shade, until the next turn.
use Rattle.std.specs.Prelude.{ℕ, ◌+◌, ◌-◌, max, cond, List, [], ◌∷◌, ◌==◌}
use Rattle.coverage.specs.Notes.{Note}

pub record Turn : Type 0 where
  pub from : ℕ
  pub level : ℕ

-- what turns note, the newest first, where `next` is the number of the turn after them: each stands to before the next one's
-- number, and at its own number in any case; numbers are counted from `first`
abbrev pub spans : ℕ → ℕ → List Turn → List Note
spans first next [] = []
spans first next (t ∷ ts) =
    record { low = t.from - first; high = max t.from (next - 1) - first; level = t.level } ∷ spans first t.from ts

-- at how many numbers a book was current
abbrev pub current_in : ℕ → List Turn → ℕ
current_in next [] = 0
current_in next (t ∷ ts) = cond (t.level == 1) (next - t.from) 0 + current_in t.from ts

-- the turn to a shade from a number on, which is not before the turn that stands
abbrev pub turned : Turn → ℕ → ℕ → Turn
turned standing from level = record { from = max standing.from from; level = level }
