-- The first word of a command.
use Rattle.std.specs.Prelude.{ℕ, List, [], ◌∷◌, codes, Option}
use Rattle.commands.specs.Tables.{lookup}
use Rattle.commands.specs.declared.verb.Verb.{Verb}
use Rattle.commands.specs.declared.verb.Verb.TheVariants.{Sheet, Store, Open, Shelf, Poke, Check, Inc, Join, Snap, Leave, Ask, Bids, Offers, Stats, Shelfsum}

-- of a command that is one word
abbrev pub lone_verb : List ℕ → Option Verb
lone_verb = lookup ((codes "join", Join) ∷ (codes "leave", Leave) ∷ (codes "shelfsum", Shelfsum) ∷ [])

-- of a command that has more words
abbrev pub verb_of : List ℕ → Option Verb
verb_of = lookup
    ((codes "sheet", Sheet) ∷ (codes "check", Check) ∷ (codes "store", Store) ∷ (codes "open", Open) ∷ (codes "shelf", Shelf) ∷ (codes "poke", Poke)
    ∷ (codes "inc", Inc) ∷ (codes "snap", Snap) ∷ (codes "ask", Ask) ∷ (codes "bids", Bids) ∷ (codes "offers", Offers) ∷ (codes "stats", Stats) ∷ [])
