-- The words of a sheet: kinds, the fields of each kind, and widths.
use Rattle.std.specs.Prelude.{ℕ, Bool, false, cond, ◌||◌, List, [], ◌∷◌, Some, None, codes, Option, ◌==◌}
use Rattle.std.specs.Str.{bytes_eq}
use Rattle.layout.specs.declared.width.Width.{Width}
use Rattle.layout.specs.declared.width.Width.TheVariants.{One, Two, Four, Eight}
use Rattle.layout.specs.declared.kinds.Kind.{Kind}
use Rattle.layout.specs.declared.kinds.Kind.TheVariants.{Order, Delete, Mass, Empty, Stat, Header, Entries}
use Rattle.sheet_text.specs.declared.types.Field.{Field}
use Rattle.sheet_text.specs.declared.types.Field.TheVariants.{Security, Action, Side, Position, Price, Size, Oid, Firm, Value, Last, Bids, Offers, Stats, Group}

-- a number for each kind, and one for each field, to tell them apart
abbrev pub kind_number : Kind → ℕ
kind_number Order = 0
kind_number Delete = 1
kind_number Mass = 2
kind_number Empty = 3
kind_number Stat = 4
kind_number Header = 5
kind_number Entries = 6

abbrev pub field_number : Field → ℕ
field_number Security = 0
field_number Action = 1
field_number Side = 2
field_number Position = 3
field_number Price = 4
field_number Size = 5
field_number Oid = 6
field_number Firm = 7
field_number Value = 8
field_number Last = 9
field_number Bids = 10
field_number Offers = 11
field_number Stats = 12
field_number Group = 13

abbrev pub same_kind : Kind → Kind → Bool
same_kind a b = kind_number a == kind_number b

abbrev pub same_field : Field → Field → Bool
same_field a b = field_number a == field_number b

-- the fields of a kind
abbrev pub fields_of : Kind → List Field
fields_of Order = Security ∷ Action ∷ Side ∷ Position ∷ Price ∷ Size ∷ Oid ∷ Firm ∷ []
fields_of Delete = Security ∷ Side ∷ Position ∷ []
fields_of Mass = Security ∷ Action ∷ Side ∷ Position ∷ []
fields_of Empty = Security ∷ []
fields_of Stat = Security ∷ Value ∷ []
fields_of Header = Security ∷ Last ∷ Bids ∷ Offers ∷ Stats ∷ []
fields_of Entries = Security ∷ Group ∷ Side ∷ Position ∷ Price ∷ Size ∷ Oid ∷ Firm ∷ []

abbrev pub among : List Field → Field → Bool
among [] f = false
among (g ∷ gs) f = same_field g f || among gs f

-- the first of some words that a word is, by what each stands for
abbrev pub lookup : {A : Type 0} → List (List ℕ × A) → List ℕ → Option A
lookup [] word = None
lookup (e ∷ es) word = cond (bytes_eq word e.0) (Some e.1) (lookup es word)

abbrev pub kind_of : List ℕ → Option Kind
kind_of = lookup
    ((codes "order", Order) ∷ (codes "delete", Delete) ∷ (codes "mass", Mass) ∷ (codes "empty", Empty)
    ∷ (codes "stat", Stat) ∷ (codes "header", Header) ∷ (codes "entries", Entries) ∷ [])

abbrev pub field_of : List ℕ → Option Field
field_of = lookup
    ((codes "security", Security) ∷ (codes "action", Action) ∷ (codes "side", Side) ∷ (codes "position", Position)
    ∷ (codes "price", Price) ∷ (codes "size", Size) ∷ (codes "oid", Oid) ∷ (codes "firm", Firm) ∷ (codes "value", Value)
    ∷ (codes "last", Last) ∷ (codes "bids", Bids) ∷ (codes "offers", Offers) ∷ (codes "stats", Stats) ∷ (codes "group", Group) ∷ [])

abbrev pub width_of : List ℕ → Option Width
width_of = lookup ((codes "1", One) ∷ (codes "2", Two) ∷ (codes "4", Four) ∷ (codes "8", Eight) ∷ [])
