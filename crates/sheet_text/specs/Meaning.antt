-- The sheet that a text stands for.
use Rattle.std.specs.Prelude.{ℕ, cond, ◌&&◌, List, [], ◌∷◌, map, drop, None, Option, ◌==◌}
use Rattle.layout.specs.declared.width.Width.TheVariants.{One, Eight}
use Rattle.layout.specs.declared.kinds.Actions.{Actions}
use Rattle.layout.specs.declared.kinds.Spot.{Spot}
use Rattle.layout.specs.declared.kinds.Layout.{Layout}
use Rattle.layout.specs.declared.kinds.Layout.TheVariants as layout
use Rattle.layout.specs.declared.template.Template.{Template}
use Rattle.layout.specs.declared.kinds.Kind.{Kind}
use Rattle.layout.specs.declared.kinds.Kind.TheVariants.{Order, Delete, Mass, Empty, Stat, Header, Entries}
use Rattle.sheet_text.specs.declared.types.Field.{Field}
use Rattle.sheet_text.specs.declared.types.Field.TheVariants.{Security, Action, Side, Position, Price, Size, Oid, Firm, Value, Last, Bids, Offers, Stats, Group}
use Rattle.sheet_text.specs.declared.types.FieldLine.{FieldLine}
use Rattle.sheet_text.specs.Names.{same_field}
use Rattle.sheet_text.specs.Follows.{firsts}
use Rattle.sheet_text.specs.Text.{Row, and_then}
use Rattle.sheet_text.specs.Sheets.{actions_of, field_lines}

-- a place for a field that no line names; a right text has none
abbrev pub spare : Field → Spot
spare Security = record { offset = 0; width = One }
spare Action = record { offset = 0; width = One }
spare Side = record { offset = 0; width = One }
spare Position = record { offset = 0; width = One }
spare Price = record { offset = 0; width = Eight }
spare Size = record { offset = 0; width = One }
spare Oid = record { offset = 0; width = One }
spare Firm = record { offset = 0; width = One }
spare Value = record { offset = 0; width = One }
spare Last = record { offset = 0; width = One }
spare Bids = record { offset = 0; width = One }
spare Offers = record { offset = 0; width = One }
spare Stats = record { offset = 0; width = One }
spare Group = record { offset = 0; width = One }

-- offset and width by the line that names the template's field
abbrev pub spot_of : List FieldLine → ℕ → Field → Spot
spot_of [] template field = spare field
spot_of (x ∷ xs) template field = cond (x.template == template && same_field x.field field) x.spot (spot_of xs template field)

-- the layout of a template of that kind
abbrev pub layout_of : List FieldLine → ℕ → Kind → Layout
layout_of xs t Order =
    layout.Order (record { security = spot_of xs t Security; action = spot_of xs t Action; side = spot_of xs t Side; position = spot_of xs t Position; price = spot_of xs t Price; size = spot_of xs t Size; oid = spot_of xs t Oid; firm = spot_of xs t Firm })
layout_of xs t Delete = layout.Delete (record { security = spot_of xs t Security; side = spot_of xs t Side; position = spot_of xs t Position })
layout_of xs t Mass =
    layout.Mass (record { security = spot_of xs t Security; action = spot_of xs t Action; side = spot_of xs t Side; position = spot_of xs t Position })
layout_of xs t Empty = layout.Empty (record { security = spot_of xs t Security })
layout_of xs t Stat = layout.Stat (record { security = spot_of xs t Security; value = spot_of xs t Value })
layout_of xs t Header =
    layout.Header (record { security = spot_of xs t Security; last = spot_of xs t Last; bids = spot_of xs t Bids; offers = spot_of xs t Offers; stats = spot_of xs t Stats })
layout_of xs t Entries =
    layout.Entries (record { security = spot_of xs t Security; count = (spot_of xs t Group).width; side = spot_of xs t Side; position = spot_of xs t Position; price = spot_of xs t Price; size = spot_of xs t Size; oid = spot_of xs t Oid; firm = spot_of xs t Firm })

-- number and layout of the template that a line is of
abbrev pub template_of : List FieldLine → FieldLine → ℕ × Layout
template_of xs x = (x.template, layout_of xs x.template x.kind)

-- number and layout of each template, in the order in which they first appear
abbrev pub templates_of : List FieldLine → List (ℕ × Layout)
templates_of xs = map (template_of xs) (firsts [] xs)

-- number and layout of each template that a sheet lists
abbrev pub listing : List Template → List (ℕ × Layout)
listing ts = map (λ t. (t.id, t.layout)) ts

-- the actions of a text, by its second row
abbrev pub actions_in : List Row → Option Actions
actions_in [] = None
actions_in (a ∷ []) = None
actions_in (a ∷ b ∷ rs) = and_then b actions_of

-- the templates of a text, by its rows from the fifth on
abbrev pub templates_in : List Row → List (ℕ × Layout)
templates_in rs = templates_of (field_lines (drop 4 rs))
