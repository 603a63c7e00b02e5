-- A band before and after a turn, after numbers were passed over, and after an adoption.
use Rattle.std.specs.Prelude.{◌≡◌, ℕ, min, ◌&&◌, List, ◌∷◌, MatchBool, ◌==◌, nat_lt}
use Rattle.coverage.specs.declared.band.Band.{Band}
use Rattle.coverage.specs.Held.{Held, adoption}
use Rattle.coverage.specs.Notes.{Note}
use Rattle.coverage.specs.Told.{Told}
use Rattle.coverage.specs.Turns.{Turn, turned}

-- whatever turns a band has come through, it has come through one more; its adoptions stay
pub record TurnTaken (before after : Band) (from level : ℕ) : Type 0 where
  pub held : (standing : Turn) (older : List Turn) → Held before standing older → Held after (turned standing from level) (standing ∷ older)
  pub first : after.first ≡ before.first
  pub adoptions : after.adoptions ≡ before.adoptions

-- the highest number heard has come to `heard`, from the one before `next`: a book that is current at it was recovering at the
-- numbers that were passed over; any other mark counts from `next` on
abbrev pub Passed : Band → Band → ℕ → ℕ → ℕ → Type 0
Passed before after next heard level =
    MatchBool (nat_lt next heard && level == 1)
    ((between : Band) × TurnTaken before between next 2 × TurnTaken between after heard 1)
    (TurnTaken before after (min next heard) level)

-- whatever adoptions a band has, it has one more; its turns stay
pub record AdoptionNoted (before after : Band) (number : ℕ) : Type 0 where
  pub adoptions : (notes : List Note) → Told before.adoptions notes → Told after.adoptions (adoption before.first number ∷ notes)
  pub held : (standing : Turn) (older : List Turn) → Held before standing older → Held after standing older
  pub first : after.first ≡ before.first
