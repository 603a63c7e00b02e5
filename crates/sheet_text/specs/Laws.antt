-- What it means that a text is accepted or refused, row by row, and that a sheet holds what the lines say.
use Rattle.std.specs.Prelude.{◌≡◌, ℕ, ◌+◌, ◌<◌, ◌≤◌, true, false, List, length, take, Some, None, slice_index_or}
use Rattle.layout.specs.declared.template.Template.{Template}
use Rattle.layout.specs.Lawful.{find}
use Rattle.sheet_text.specs.declared.types.FieldLine.{FieldLine}
use Rattle.sheet_text.specs.Text.{Row}
use Rattle.sheet_text.specs.Names.{fields_of}
use Rattle.sheet_text.specs.Follows.{missing}
use Rattle.sheet_text.specs.Sheets.{right, may_end}
use Rattle.sheet_text.specs.Meaning.{spot_of, layout_of}

-- each of the first n rows is right behind those before it
abbrev pub RightBelow : List Row → ℕ → Type 0
RightBelow rs n = (k : ℕ) → k < n → right (take k rs) (slice_index_or rs k None) ≡ true

-- every row is right, and nothing is missing at the end
pub record Accepted (rs : List Row) : Type 0 where
  pub each : RightBelow rs (length rs)
  pub ended : may_end rs ≡ true

-- behind `place` right rows, line n is wrong, or is missing at the end
pub record RefusedAt (rs : List Row) (n : ℕ) : Type 0 where
  pub place : ℕ
  pub line : n ≡ place + 1
  pub within : place ≤ length rs
  pub each : RightBelow rs place
  pub wrong : place < length rs → right (take place rs) (slice_index_or rs place None) ≡ false
  pub lacking : place ≡ length rs → may_end rs ≡ false

-- a sheet finds the template of each line, with a layout of the line's kind, whose every field lies where the line that names
-- it says and which lacks none
pub record Honoured (ts : List Template) (xs : List FieldLine) : Type 0 where
  pub found : (k : ℕ) (d : FieldLine) → k < length xs → find ts (slice_index_or xs k d).template ≡ Some (layout_of xs (slice_index_or xs k d).template (slice_index_or xs k d).kind)
  pub placed : (k : ℕ) (d : FieldLine) → k < length xs → spot_of xs (slice_index_or xs k d).template (slice_index_or xs k d).field ≡ (slice_index_or xs k d).spot
  pub whole : (k : ℕ) (d : FieldLine) → k < length xs → missing xs (slice_index_or xs k d).template (fields_of (slice_index_or xs k d).kind) ≡ 0
