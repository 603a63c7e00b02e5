-- Which sheets there can be.
use Rattle.std.specs.Prelude.{ℕ, ◌+◌, Bool, true, false, cond, not, ◌&&◌, List, [], ◌∷◌, length, Some, None, Option, ◌==◌, nat_le}
use Rattle.layout.specs.declared.kinds.Actions.{Actions}
use Rattle.layout.specs.declared.kinds.Spot.{Spot}
use Rattle.layout.specs.declared.kinds.Layout.{Layout}
use Rattle.layout.specs.declared.kinds.Layout.TheVariants.{Order, Delete, Mass, Empty, Stat, Header, Entries}
use Rattle.layout.specs.declared.template.Template.{Template}
use Rattle.layout.specs.Wire.{bytes_of}
use Rattle.layout.specs.Reach.{reach}

-- the layout of a template, where the sheet lists it
abbrev pub find : List Template → ℕ → Option Layout
find [] id = None
find (t ∷ ts) id = cond (t.id == id) (Some t.layout) (find ts id)

abbrev pub is_none : Option Layout → Bool
is_none None = true
is_none (Some l) = false

-- the four actions have different numbers
abbrev pub different : Actions → Bool
different a =
    (not (a.new == a.change) && (not (a.new == a.topcut) && not (a.new == a.bottomcut)))
    && (not (a.change == a.topcut) && (not (a.change == a.bottomcut) && not (a.topcut == a.bottomcut)))

-- a field of at most `most` bytes, that ends within the longest block
abbrev pub up_to : ℕ → Spot → Bool
up_to most s = nat_le (bytes_of s.width) most && nat_le (reach s) 1372

-- a field of just `bytes` bytes
abbrev pub just : ℕ → Spot → Bool
just bytes s = bytes_of s.width == bytes && nat_le (reach s) 1372

-- each field has a width that its name allows, and ends within the longest block
abbrev pub lawful_layout : Layout → Bool
lawful_layout (Order l) =
    ((up_to 8 l.security && just 1 l.action) && (just 1 l.side && up_to 4 l.position))
    && ((just 8 l.price && up_to 8 l.size) && (up_to 8 l.oid && up_to 4 l.firm))
lawful_layout (Delete l) = up_to 8 l.security && (just 1 l.side && up_to 4 l.position)
lawful_layout (Mass l) = (up_to 8 l.security && just 1 l.action) && (just 1 l.side && up_to 4 l.position)
lawful_layout (Empty l) = up_to 8 l.security
lawful_layout (Stat l) = up_to 8 l.security && up_to 8 l.value
lawful_layout (Header l) = (up_to 8 l.security && up_to 4 l.last) && (up_to 4 l.bids && (up_to 4 l.offers && up_to 4 l.stats))
lawful_layout (Entries l) =
    ((up_to 8 l.security && nat_le (bytes_of l.count) 2) && (just 1 l.side && up_to 4 l.position))
    && ((just 8 l.price && up_to 8 l.size) && (up_to 8 l.oid && up_to 4 l.firm))

abbrev pub is_stat : Layout → Bool
is_stat (Order l) = false
is_stat (Delete l) = false
is_stat (Mass l) = false
is_stat (Empty l) = false
is_stat (Stat l) = true
is_stat (Header l) = false
is_stat (Entries l) = false

-- how many templates are of the kind `stat`
abbrev pub stat_count : List Template → ℕ
stat_count [] = 0
stat_count (t ∷ ts) = cond (is_stat t.layout) 1 0 + stat_count ts

-- each template's layout is lawful, and no number stands twice
abbrev pub lawful_each : List Template → List Template → Bool
lawful_each before [] = true
lawful_each before (t ∷ ts) = lawful_layout t.layout && (is_none (find before t.id) && lawful_each (t ∷ before) ts)

-- different actions, at most 40 templates and 16 of them statistics, each lawful, each number once
abbrev pub lawful : Actions → List Template → Bool
lawful a ts = (different a && (nat_le (length ts) 40 && nat_le (stat_count ts) 16)) && lawful_each [] ts
