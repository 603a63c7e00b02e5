-- What every kind of store has to show of its images and of the pieces that do not concern it.
use Rattle.std.specs.Prelude.{◌≡◌, true, false, List, [], ◌∷◌}
use Rattle.message.specs.declared.values.HeaderFields.{HeaderFields}
use Rattle.message.specs.Meaning.{Part, broken, torn}
use Rattle.store.specs.Kind.{Kind}

module _ {V O : Type 0} (K : Kind V O) where
  -- from x staged and o owed these pieces all fit and leave nothing owed, and whenever nothing is owed the staged value is v
  abbrev pub Fills : V → O → List Part → V → Type 0
  Fills x o [] v = (K.whole o ≡ true) × (x ≡ v)
  Fills x o (p ∷ ps) v = (K.whole o ≡ true → x ≡ v) × (K.takes x o p ≡ true) × Fills (K.put x o p) (K.less o p) ps v

  -- The image law: a header and pieces that are an image of a value fit, and fill that value.
  abbrev pub ImageLaw : (HeaderFields → List Part → V → Type 0) → Type 0
  ImageLaw Image = (h : HeaderFields) (ps : List Part) (v : V) → Image h ps v → (K.holds h ≡ true) × Fills (K.begins h) (K.owes h) ps v

  -- A piece of no concern fits and changes nothing; what misses a field fits nothing.
  pub record Sound : Type 0 where
    pub aside : (x : V) (o : O) (p : Part) → K.concerns p ≡ false → (K.takes x o p ≡ true) × (K.put x o p ≡ x) × (K.less o p ≡ o)
    pub broken : (v : V) → K.fits v broken ≡ false
    pub torn : (x : V) (o : O) → K.takes x o torn ≡ false
