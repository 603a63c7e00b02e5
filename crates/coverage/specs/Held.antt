-- A band that has come through some turns, the newest of which stands.
use Rattle.std.specs.Prelude.{◌≡◌, ℕ, ◌-◌, List, []}
use Rattle.coverage.specs.declared.band.Band.{Band}
use Rattle.coverage.specs.Notes.{Note}
use Rattle.coverage.specs.Shades.{level_of}
use Rattle.coverage.specs.Told.{Told}
use Rattle.coverage.specs.Turns.{Turn, spans, current_in}

pub record Held (band : Band) (standing : Turn) (older : List Turn) : Type 0 where
  pub since : band.since ≡ standing.from
  pub level : level_of band.shade ≡ standing.level
  pub shades : Told band.shades (spans band.first standing.from older)
  pub current : band.current ≡ current_in standing.from older

-- an adoption at a number, counted from the first one
abbrev pub adoption : ℕ → ℕ → Note
adoption first number = record { low = number - first; high = number - first; level = 1 }

-- a band that nothing was told to
pub record Clear (band : Band) (first : ℕ) : Type 0 where
  pub start : band.first ≡ first
  pub held : Held band (record { from = first; level = 0 }) []
  pub adoptions : Told band.adoptions []
