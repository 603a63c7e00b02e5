-- The smallest kind of store that an example needs: it keeps the latest number that any statistic had.
use Rattle.std.specs.Prelude.{◌≡◌, ℕ, ◌-◌, Bool, true, false, List, [], ◌∷◌, ℤ, Some, None, Option, ◌==◌, nat_le, nat_lt}
use Rattle.message.specs.declared.values.HeaderFields.{HeaderFields}
use Rattle.message.specs.declared.values.StatFields.{StatFields}
use Rattle.message.specs.Meaning.{Body, put, delete, mass, empty, stat, aside, broken, Part, entry, number, torn}
use Rattle.store.specs.Kind.{Kind}

abbrev pub Latest : Type 0
Latest = Option ℤ

abbrev pub fits_latest : Body → Bool
fits_latest (put f) = true
fits_latest (delete f) = true
fits_latest (mass f) = true
fits_latest empty = true
fits_latest (stat f) = true
fits_latest aside = true
fits_latest broken = false

abbrev pub after_latest : Latest → Body → Latest
after_latest v (put f) = v
after_latest v (delete f) = v
after_latest v (mass f) = v
after_latest v empty = v
after_latest v (stat f) = Some f.value
after_latest v aside = v
after_latest v broken = v

abbrev pub concerns_latest : Part → Bool
concerns_latest (entry f) = false
concerns_latest (number f) = true
concerns_latest torn = true

abbrev pub takes_latest : ℕ → Part → Bool
takes_latest n (entry f) = true
takes_latest n (number f) = nat_lt 0 n
takes_latest n torn = false

abbrev pub put_latest : Latest → Part → Latest
put_latest v (entry f) = v
put_latest v (number f) = Some f.value
put_latest v torn = v

abbrev pub less_latest : ℕ → Part → ℕ
less_latest n (entry f) = n
less_latest n (number f) = n - 1
less_latest n torn = n

abbrev pub latest : Kind Latest ℕ
latest = record {
  fresh = None;
  fits = λ v b. fits_latest b;
  after = after_latest;
  holds = λ h. nat_le h.stats 1;
  begins = λ h. None;
  owes = λ h. h.stats;
  concerns = concerns_latest;
  takes = λ v n p. takes_latest n p;
  put = λ v n p. put_latest v p;
  less = less_latest;
  whole = λ n. (n == 0);
}

-- one statistic, and its number is the latest
pub record LatestImage (h : HeaderFields) (ps : List Part) (v : Latest) : Type 0 where
  pub count : h.stats ≡ 1
  pub only : StatFields
  pub pieces : ps ≡ number only ∷ []
  pub value : v ≡ Some only.value
