-- How messages are counted by kind, and refused datagrams by the number of their refusal.
use Rattle.std.specs.Prelude.{ℕ, ◌+◌, ◌-◌, ◌^◌, min, List, [], ◌∷◌, Some, None, Option, option_map, slice_index, slice_index_or, slice_set}
use Rattle.std.specs.List.{fold}
use Rattle.layout.specs.declared.kinds.Kind.{Kind}
use Rattle.layout.specs.declared.kinds.Kind.TheVariants.{Order, Delete, Mass, Empty, Stat, Header, Entries}
use Rattle.layout.specs.declared.kinds.Layout.{Layout}
use Rattle.layout.specs.Kinds.{kind_of}
use Rattle.refusal.specs.declared.Refusal.{Refusal}
use Rattle.refusal.specs.Reasons.{number_of}
use Rattle.message.specs.Meaning.{Msg}
use Rattle.destinations.specs.declared.refusals.First.{First}
use Rattle.destinations.specs.declared.refusals.Refused.{Refused}

-- one more, up to the largest count
abbrev pub one_more : ℕ → ℕ
one_more n = min (n + 1) (2 ^ 64 - 1)

-- the place of a kind among the counts; the last one is for templates that the sheet does not list
abbrev pub place_of : Option Kind → ℕ
place_of (Some Order) = 0
place_of (Some Delete) = 1
place_of (Some Mass) = 2
place_of (Some Empty) = 3
place_of (Some Stat) = 4
place_of (Some Header) = 5
place_of (Some Entries) = 6
place_of None = 7

abbrev pub kind_at : Option Layout → ℕ
kind_at l = place_of (option_map kind_of l)

-- the counts behind one message more, and behind all messages of a packet
abbrev pub message_noted : List ℕ → Msg → List ℕ
message_noted counts m = slice_set counts (kind_at m.layout) (one_more (slice_index counts (kind_at m.layout)))

abbrev pub all_noted : List ℕ → List Msg → List ℕ
all_noted counts [] = counts
all_noted counts (m ∷ more) = all_noted (message_noted counts m) more

-- how many of all kinds, up to the largest count
abbrev pub all_counted : List ℕ → ℕ
all_counted counts = fold (λ all n. min (all + n) (2 ^ 64 - 1)) 0 counts

abbrev pub never : Refused
never = record { count = 0; first = None }

-- the first time, where there is one, or else this one
abbrev pub first_of : Option First → First → Option First
first_of (Some first) now = Some first
first_of None now = Some now

-- one more; the first keeps its place and its record
abbrev pub again : Refused → ℕ → ℕ → Refused
again r at in-record = record { count = one_more r.count; first = first_of r.first (record { place = at; index = in-record }) }

-- how many for all reasons, up to the largest count
abbrev pub all_refused : List Refused → ℕ
all_refused all = fold (λ n r. min (n + r.count) (2 ^ 64 - 1)) 0 all

-- the refusals are numbered from 1
abbrev pub refused_noted : List Refused → Refusal → ℕ → List Refused
refused_noted all r in-record = slice_set all (number_of r.reason - 1) (again (slice_index_or all (number_of r.reason - 1) never) r.place in-record)
