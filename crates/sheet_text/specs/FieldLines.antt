-- The grammar of one field line, with the rules that concern a line alone.
use Rattle.std.specs.Prelude.{ℕ, Bool, cond, ◌&&◌, List, Some, None, Option, ◌==◌, nat_le}
use Rattle.layout.specs.declared.kinds.Spot.{Spot}
use Rattle.layout.specs.Wire.{bytes_of}
use Rattle.layout.specs.Lawful.{up_to, just}
use Rattle.sheet_text.specs.declared.types.Field.{Field}
use Rattle.sheet_text.specs.declared.types.Field.TheVariants.{Security, Action, Side, Position, Price, Size, Oid, Firm, Value, Last, Bids, Offers, Stats, Group}
use Rattle.sheet_text.specs.declared.types.FieldLine.{FieldLine}
use Rattle.sheet_text.specs.Text.{cut_at, number_of, and_then}
use Rattle.sheet_text.specs.Names.{fields_of, among, kind_of, field_of, width_of}

-- whether a field may lie there: it has a width that its name allows, and ends within the longest block; a group lies at 0
abbrev pub allowed : Field → Spot → Bool
allowed Security s = up_to 8 s
allowed Action s = just 1 s
allowed Side s = just 1 s
allowed Position s = up_to 4 s
allowed Price s = just 8 s
allowed Size s = up_to 8 s
allowed Oid s = up_to 8 s
allowed Firm s = up_to 4 s
allowed Value s = up_to 8 s
allowed Last s = up_to 4 s
allowed Bids s = up_to 4 s
allowed Offers s = up_to 4 s
allowed Stats s = up_to 4 s
allowed Group s = s.offset == 0 && nat_le (bytes_of s.width) 2

-- the field belongs to the kind, and may lie there
abbrev pub sound : FieldLine → Bool
sound x = among (fields_of x.kind) x.field && allowed x.field x.spot

abbrev pub if_sound : FieldLine → Option FieldLine
if_sound x = cond (sound x) (Some x) None

-- template kind field offset width, parted by one space
abbrev pub field_line : List ℕ → Option FieldLine
field_line line =
    and_then (cut_at 32 line) (λ a. and_then (cut_at 32 a.1) (λ b. and_then (cut_at 32 b.1) (λ c. and_then (cut_at 32 c.1) (λ d.
    and_then (number_of 65535 a.0) (λ template. and_then (kind_of b.0) (λ kind. and_then (field_of c.0) (λ field.
    and_then (number_of 65535 d.0) (λ offset. and_then (width_of d.1) (λ width.
    if_sound (record { template = template; kind = kind; field = field; spot = record { offset = offset; width = width } }))))))))))
