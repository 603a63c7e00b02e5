-- The first four rows of a sheet.
use Rattle.std.specs.Prelude.{ℕ, Bool, false, List, [], ◌∷◌, Some, None, codes, Option}
use Rattle.std.specs.Str.{bytes_eq}
use Rattle.layout.specs.declared.kinds.Actions.{Actions}
use Rattle.sheet_text.specs.Text.{Row, and_then}
use Rattle.sheet_text.specs.Sheets.{actions_of}

-- whether the first row is that line
abbrev pub starts_with : List ℕ → List Row → Bool
starts_with want [] = false
starts_with want (None ∷ rs) = false
starts_with want (Some line ∷ rs) = bytes_eq line want

-- the actions of the first row
abbrev pub actions_first : List Row → Option Actions
actions_first [] = None
actions_first (row ∷ rs) = and_then row actions_of

-- the first four rows of a sheet with that line of actions
abbrev pub opening_rows : List ℕ → List Row
opening_rows line = Some (codes "new change topcut bottomcut") ∷ Some line ∷ Some [] ∷ Some (codes "template kind field offset width") ∷ []
