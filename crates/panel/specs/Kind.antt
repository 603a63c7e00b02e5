-- The kind of store that keeps a panel of the latest numbers of the templates ts.
use Rattle.std.specs.Prelude.{ℕ, ◌-◌, Bool, true, false, List, length, ◌==◌, nat_le, nat_lt}
use Rattle.message.specs.Meaning.{Body, put, delete, mass, empty, stat, aside, broken, Part, entry, number, torn}
use Rattle.store.specs.Kind.{Kind}
use Rattle.panel.specs.Numbers.{Panel, no_numbers, noted}

-- every message fits, unless it misses a field
abbrev pub fits_panel : Body → Bool
fits_panel (put f) = true
fits_panel (delete f) = true
fits_panel (mass f) = true
fits_panel empty = true
fits_panel (stat f) = true
fits_panel aside = true
fits_panel broken = false

-- only a statistic changes a panel
abbrev pub after_panel : List ℕ → Panel → Body → Panel
after_panel ts v (put f) = v
after_panel ts v (delete f) = v
after_panel ts v (mass f) = v
after_panel ts v empty = v
after_panel ts v (stat f) = noted ts v f.template f.value
after_panel ts v aside = v
after_panel ts v broken = v

-- an entry is no concern of a panel
abbrev pub concerns_panel : Part → Bool
concerns_panel (entry e) = false
concerns_panel (number f) = true
concerns_panel torn = true

-- a statistic fits while one is owed
abbrev pub takes_number : ℕ → Part → Bool
takes_number o (entry e) = true
takes_number o (number f) = nat_lt 0 o
takes_number o torn = false

abbrev pub put_number : List ℕ → Panel → Part → Panel
put_number ts v (entry e) = v
put_number ts v (number f) = noted ts v f.template f.value
put_number ts v torn = v

abbrev pub less_number : ℕ → Part → ℕ
less_number o (entry e) = o
less_number o (number f) = o - 1
less_number o torn = o

abbrev pub panel : List ℕ → Kind Panel ℕ
panel ts = record {
  fresh = no_numbers ts;
  fits = λ v b. fits_panel b;
  after = after_panel ts;
  holds = λ h. nat_le h.stats (length ts);
  begins = λ h. no_numbers ts;
  owes = λ h. h.stats;
  concerns = concerns_panel;
  takes = λ v o p. takes_number o p;
  put = λ v o p. put_number ts v p;
  less = less_number;
  whole = λ o. (o == 0);
}
