-- The runs of like columns, one behind the other.
use Rattle.std.specs.Prelude.{◌≡◌, ◌<◌, ◌≤◌, length, slice_index, Option, MatchOption}
use Rattle.coverage.specs.declared.runs.Run.{Run}
use Rattle.coverage.specs.declared.runs.Runs.{Runs}
use Rattle.coverage.specs.Geometry.{RunOf}

-- the run that begins where the runs stand, and they stand at its end
pub record FollowsRun (before : Runs) (run : Run) (after : Runs) : Type 0 where
  pub from : run.from ≡ before.column
  pub inside : run.from < length before.levels.now.cells.items
  pub level : run.level ≡ slice_index before.levels.now.cells.items run.from
  pub alike : RunOf before.levels.now.cells.items run.from run.end
  pub next : after.column ≡ run.end
  pub levels : after.levels.now ≡ before.levels.now

-- the next run, or none behind the last column
abbrev pub YieldsRun : Runs → Option Run → Runs → Type 0
YieldsRun before run after = MatchOption run (length before.levels.now.cells.items ≤ before.column) (λ r. FollowsRun before r after)
