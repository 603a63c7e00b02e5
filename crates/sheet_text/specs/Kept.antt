-- What the field lines of a right text have in common.
use Rattle.std.specs.Prelude.{◌≡◌, ◌+◌, ◌*◌, ◌≤◌, Bool, true, ◌&&◌, List, [], ◌∷◌, length}
use Rattle.sheet_text.specs.declared.types.FieldLine.{FieldLine}
use Rattle.sheet_text.specs.FieldLines.{sound}
use Rattle.sheet_text.specs.Follows.{firsts, stat_lines, lacks, last_of}

abbrev pub all_sound : List FieldLine → Bool
all_sound [] = true
all_sound (x ∷ xs) = sound x && all_sound xs

-- each line is sound; there are at most 40 templates, 16 of them `stat`, and no more than eight lines for each
pub record Kept (xs : List FieldLine) : Type 0 where
  pub each : all_sound xs ≡ true
  pub few : length (firsts [] xs) ≤ 40
  pub stats : stat_lines (firsts [] xs) ≤ 16
  pub short : length xs + lacks xs (last_of xs) ≤ 8 * length (firsts [] xs)
