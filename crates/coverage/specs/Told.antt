-- What the columns of `Levels` tell.
use Rattle.std.specs.Prelude.{List, vec_items}
use Rattle.coverage.specs.declared.levels.Levels.{Levels}
use Rattle.coverage.specs.Notes.{Note, Tells}

abbrev pub Told : Levels → List Note → Type 0
Told levels notes = Tells notes levels.width (vec_items levels.cells)
