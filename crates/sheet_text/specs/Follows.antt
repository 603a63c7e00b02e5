-- Which field line may stand behind which others.
use Rattle.std.specs.Prelude.{ℕ, ◌+◌, Bool, false, cond, not, ◌&&◌, ◌||◌, List, [], ◌∷◌, ◌++◌, length, Some, None, Option, ◌==◌, nat_lt}
use Rattle.layout.specs.declared.kinds.Kind.{Kind}
use Rattle.layout.specs.declared.kinds.Kind.TheVariants.{Stat}
use Rattle.sheet_text.specs.declared.types.Field.{Field}
use Rattle.sheet_text.specs.declared.types.FieldLine.{FieldLine}
use Rattle.sheet_text.specs.Names.{fields_of, same_kind, same_field}

-- whether a line is of that template
abbrev pub listed : List FieldLine → ℕ → Bool
listed [] template = false
listed (x ∷ xs) template = x.template == template || listed xs template

-- whether a line of that template names the field
abbrev pub named : List FieldLine → ℕ → Field → Bool
named [] template field = false
named (x ∷ xs) template field = (x.template == template && same_field x.field field) || named xs template field

-- how many of these fields no line of that template names
abbrev pub missing : List FieldLine → ℕ → List Field → ℕ
missing xs template [] = 0
missing xs template (f ∷ fs) = cond (named xs template f) 0 1 + missing xs template fs

-- the first line of each template, in their order; `before` are the lines that stand before these
abbrev pub firsts : List FieldLine → List FieldLine → List FieldLine
firsts before [] = []
firsts before (x ∷ xs) = cond (listed before x.template) [] (x ∷ []) ++ firsts (before ++ x ∷ []) xs

-- how many lines are of the kind `stat`
abbrev pub stat_lines : List FieldLine → ℕ
stat_lines [] = 0
stat_lines (x ∷ xs) = cond (same_kind x.kind Stat) 1 0 + stat_lines xs

abbrev pub last_from : Option FieldLine → List FieldLine → Option FieldLine
last_from last [] = last
last_from last (x ∷ xs) = last_from (Some x) xs

-- the last line
abbrev pub last_of : List FieldLine → Option FieldLine
last_of xs = last_from None xs

-- how many fields of its kind the template of this line still lacks
abbrev pub lacks : List FieldLine → Option FieldLine → ℕ
lacks xs None = 0
lacks xs (Some x) = missing xs x.template (fields_of x.kind)

-- the template of the last line has all its fields
abbrev pub complete : List FieldLine → Bool
complete xs = lacks xs (last_of xs) == 0

-- a line of this template and kind
abbrev pub goes_on : Option FieldLine → FieldLine → Bool
goes_on None x = false
goes_on (Some y) x = y.template == x.template && same_kind y.kind x.kind

-- there are fewer than 40 templates, and, for a `stat`, fewer than 16 of that kind
abbrev pub room_for : List FieldLine → Kind → Bool
room_for xs kind = nat_lt (length (firsts [] xs)) 40 && (not (same_kind kind Stat) || nat_lt (stat_lines (firsts [] xs)) 16)

-- a line of a template that is there goes on with it and names another field; any other begins a template behind a complete one
abbrev pub may_follow : List FieldLine → FieldLine → Bool
may_follow before x =
    cond (listed before x.template)
    (goes_on (last_of before) x && not (named before x.template x.field))
    (complete before && room_for before x.kind)
