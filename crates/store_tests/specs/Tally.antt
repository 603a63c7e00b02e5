-- A kind of store that counts statistics, up to 1,000.
use Rattle.std.specs.Prelude.{◌≡◌, ℕ, suc, ◌+◌, ◌-◌, ◌≤◌, Bool, true, false, ◌&&◌, List, [], ◌∷◌, ◌==◌, nat_le, nat_lt}
use Rattle.message.specs.declared.values.HeaderFields.{HeaderFields}
use Rattle.message.specs.Meaning.{Body, put, delete, mass, empty, stat, aside, broken, Part, entry, number, torn}
use Rattle.store.specs.Kind.{Kind}

abbrev pub fits_tally : ℕ → Body → Bool
fits_tally v (put f) = true
fits_tally v (delete f) = true
fits_tally v (mass f) = true
fits_tally v empty = true
fits_tally v (stat f) = nat_lt v 1000
fits_tally v aside = true
fits_tally v broken = false

abbrev pub after_tally : ℕ → Body → ℕ
after_tally v (put f) = v
after_tally v (delete f) = v
after_tally v (mass f) = v
after_tally v empty = v
after_tally v (stat f) = v + 1
after_tally v aside = v
after_tally v broken = v

abbrev pub concerns_tally : Part → Bool
concerns_tally (entry e) = false
concerns_tally (number f) = true
concerns_tally torn = true

abbrev pub takes_tally : ℕ → ℕ → Part → Bool
takes_tally v o (entry e) = true
takes_tally v o (number f) = nat_lt 0 o && nat_lt v 1000
takes_tally v o torn = false

abbrev pub put_tally : ℕ → Part → ℕ
put_tally v (entry e) = v
put_tally v (number f) = v + 1
put_tally v torn = v

abbrev pub less_tally : ℕ → Part → ℕ
less_tally o (entry e) = o
less_tally o (number f) = o - 1
less_tally o torn = o

abbrev pub tally : Kind ℕ ℕ
tally = record {
  fresh = 0;
  fits = fits_tally;
  after = after_tally;
  holds = λ h. nat_le h.stats 1000;
  begins = λ h. 0;
  owes = λ h. h.stats;
  concerns = concerns_tally;
  takes = takes_tally;
  put = λ v o p. put_tally v p;
  less = less_tally;
  whole = λ o. (o == 0);
}

unfoldable pub told : List Part → ℕ
told [] = 0
told (entry e ∷ ps) = told ps
told (number f ∷ ps) = suc (told ps)
told (torn ∷ ps) = told ps

unfoldable pub Sound : List Part → Type 0
Sound [] = Unit {0}
Sound (entry e ∷ ps) = Sound ps
Sound (number f ∷ ps) = Sound ps
Sound (torn ∷ ps) = ⊥

-- as many statistics as the header tells and the count is
abbrev pub TallyImage : HeaderFields → List Part → ℕ → Type 0
TallyImage h ps v = (h.stats ≡ told ps) × (v ≡ told ps) × (v ≤ 1000) × Sound ps
