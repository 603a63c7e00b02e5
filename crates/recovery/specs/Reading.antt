-- What an instrument's book reads of an incremental packet, and what a snapshot packet is read for.
use Rattle.std.specs.Prelude.{ℕ, Bool, true, false, cond, ◌&&◌, List, [], ◌∷◌, Some, None, Option, ◌==◌}
use Rattle.layout.specs.declared.kinds.EntriesLayout.{EntriesLayout}
use Rattle.layout.specs.declared.kinds.Layout.{Layout}
use Rattle.layout.specs.declared.kinds.Layout.TheVariants.{Order, Delete, Mass, Empty, Stat, Header, Entries}
use Rattle.message.specs.declared.values.HeaderFields.{HeaderFields}
use Rattle.message.specs.Meaning.{Msg, Body, Part, body, security, entry, number, or_torn, entry_fields, stat_fields, header_fields, entry_parts}

abbrev pub is_of : ℕ → Option ℕ → Bool
is_of i None = false
is_of i (Some j) = j == i

-- a header or entries change no book, nor does a template that the sheet does not list
abbrev pub is_change : Option Layout → Bool
is_change None = false
is_change (Some (Order l)) = true
is_change (Some (Delete l)) = true
is_change (Some (Mass l)) = true
is_change (Some (Empty l)) = true
is_change (Some (Stat l)) = true
is_change (Some (Header l)) = false
is_change (Some (Entries l)) = false

abbrev pub reads : ℕ → Msg → Bool
reads i m = is_of i (security m) && is_change m.layout

-- what a packet says to the book of the instrument i, in order
unfoldable pub changes : ℕ → List Msg → List Body
changes i [] = []
changes i (m ∷ ms) = cond (reads i m) (body m ∷ changes i ms) (changes i ms)

-- what a snapshot is read for: a group opens for an instrument, or can not; a piece of an instrument
pub data Event : Type 0 where
  opens : ℕ → HeaderFields → Event
  closes : Event
  adds : ℕ → Part → Event

abbrev pub opens_for : Option ℕ → Option HeaderFields → List Event
opens_for None h = closes ∷ []
opens_for (Some i) None = closes ∷ []
opens_for (Some i) (Some h) = opens i h ∷ []

-- each entry is a piece of its own
abbrev pub entries_for : ℕ → EntriesLayout → List (List ℕ) → List Event
entries_for i l [] = []
entries_for i l (e ∷ es) = adds i (or_torn entry (entry_fields l e)) ∷ entries_for i l es

abbrev pub adds_for : Option ℕ → (ℕ → List Event) → List Event
adds_for None f = []
adds_for (Some i) f = f i

abbrev pub told_by : Option Layout → Option ℕ → List ℕ → List Event
told_by None i m = []
told_by (Some (Order l)) i m = []
told_by (Some (Delete l)) i m = []
told_by (Some (Mass l)) i m = []
told_by (Some (Empty l)) i m = []
told_by (Some (Stat l)) i m = adds_for i (λ j. adds j (or_torn number (stat_fields l m)) ∷ [])
told_by (Some (Header l)) i m = opens_for i (header_fields l m)
told_by (Some (Entries l)) i m = adds_for i (λ j. entries_for j l (entry_parts l m))

-- what a message of a snapshot packet is read for
abbrev pub told : Msg → List Event
told m = told_by m.layout (security m) m.bytes
