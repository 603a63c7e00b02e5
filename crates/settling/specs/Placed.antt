-- The numbers and the sizes of the packets at the places of a shelf.
use Rattle.std.specs.Prelude.{ℕ, List, map}
use Rattle.settling.specs.declared.places.Place.{Place}

abbrev pub numbers_of : List Place → List ℕ
numbers_of ps = map (λ p. p.number) ps

abbrev pub sizes_of : List Place → List ℕ
sizes_of ps = map (λ p. p.size) ps
