-- Which texts are sheets, and which line is the first wrong one.
use Rattle.std.specs.Prelude.{ℕ, ◌+◌, Bool, false, cond, List, [], ◌∷◌, ◌++◌, length, is_some, Some, None, Ok, Err, codes, Option, Result}
use Rattle.std.specs.Str.{bytes_eq}
use Rattle.layout.specs.declared.kinds.Actions.{Actions}
use Rattle.layout.specs.Lawful.{different}
use Rattle.sheet_text.specs.declared.types.FieldLine.{FieldLine}
use Rattle.sheet_text.specs.declared.types.SheetFault.{SheetFault}
use Rattle.sheet_text.specs.Text.{Row, cut_at, number_of, and_then}
use Rattle.sheet_text.specs.FieldLines.{field_line}
use Rattle.sheet_text.specs.Follows.{complete, may_follow}

abbrev pub if_different : Actions → Option Actions
if_different a = cond (different a) (Some a) None

-- four different numbers up to 255, parted by one space
abbrev pub actions_of : List ℕ → Option Actions
actions_of line =
    and_then (cut_at 32 line) (λ a. and_then (cut_at 32 a.1) (λ b. and_then (cut_at 32 b.1) (λ c.
    and_then (number_of 255 a.0) (λ new. and_then (number_of 255 b.0) (λ change. and_then (number_of 255 c.0) (λ topcut. and_then (number_of 255 c.1) (λ bottomcut.
    if_different (record { new = new; change = change; topcut = topcut; bottomcut = bottomcut }))))))))

abbrev pub with_line : Option FieldLine → List FieldLine → List FieldLine
with_line None xs = xs
with_line (Some x) xs = x ∷ xs

-- the field lines among some rows
abbrev pub field_lines : List Row → List FieldLine
field_lines [] = []
field_lines (row ∷ rs) = with_line (and_then row field_line) (field_lines rs)

abbrev pub follows : List FieldLine → Option FieldLine → Bool
follows before None = false
follows before (Some x) = may_follow before x

-- whether a line may stand behind these rows: the first four lines have their own rules, and the others are field lines
abbrev pub right_line : List Row → List ℕ → Bool
right_line [] line = bytes_eq line (codes "new change topcut bottomcut")
right_line (a ∷ []) line = is_some (actions_of line)
right_line (a ∷ b ∷ []) line = bytes_eq line []
right_line (a ∷ b ∷ c ∷ []) line = bytes_eq line (codes "template kind field offset width")
right_line (a ∷ b ∷ c ∷ d ∷ before) line = follows (field_lines before) (field_line line)

-- whether a row is right behind those before it
abbrev pub right : List Row → Row → Bool
right before None = false
right before (Some line) = right_line before line

-- whether a text may end behind these rows: it has its first four lines, and its last template is complete
abbrev pub may_end : List Row → Bool
may_end [] = false
may_end (a ∷ []) = false
may_end (a ∷ b ∷ []) = false
may_end (a ∷ b ∷ c ∷ []) = false
may_end (a ∷ b ∷ c ∷ d ∷ before) = complete (field_lines before)

-- the first line, from 1, that is not right behind those before it, or is missing
abbrev pub first_wrong : List Row → List Row → Option ℕ
first_wrong before [] = cond (may_end before) None (Some (length before + 1))
first_wrong before (row ∷ rs) = cond (right before row) (first_wrong (before ++ row ∷ []) rs) (Some (length before + 1))

abbrev pub answer : Option ℕ → Result (Unit {0}) SheetFault
answer None = Ok tt
answer (Some n) = Err (record { line = n })
