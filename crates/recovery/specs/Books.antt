-- The book of one instrument, and how it settles: packet by packet, as far as the shelf leads on.
use Rattle.std.specs.Prelude.{ℕ, zero, suc, ◌+◌, ◌-◌, Bool, true, cond, ◌&&◌, List, [], ◌∷◌, nat_le, nat_lt}
use Rattle.message.specs.Meaning.{Body}
use Rattle.store.specs.Kind.{Kind}
use Rattle.recovery.specs.declared.marks.Mark.{Mark}
use Rattle.recovery.specs.declared.marks.Mark.TheVariants.{Stale, AsOf}
use Rattle.recovery.specs.Shelf.{Found, upon}
use Rattle.recovery.specs.Reading.{changes}

pub record Book (V : Type 0) : Type 0 where
  pub mark : Mark
  pub value : V

abbrev pub book : {V : Type 0} → Mark → V → Book V
book x v = record { mark = x; value = v }

-- the kind as it is at a slot of a store that has `room` slots: nothing fits where there is no such slot
abbrev pub kind_at : {V O : Type 0} → Kind V O → ℕ → ℕ → Kind V O
kind_at K room q = record {
  fresh = K.fresh;
  fits = λ v b. nat_lt q room && K.fits v b;
  after = K.after;
  holds = K.holds;
  begins = K.begins;
  owes = K.owes;
  concerns = K.concerns;
  takes = K.takes;
  put = K.put;
  less = K.less;
  whole = K.whole;
}

module _ {V O : Type 0} (K : Kind V O) where
  -- whether a row of changes all fit, and the value after them
  unfoldable pub fit_all : V → List Body → Bool
  fit_all v [] = true
  fit_all v (c ∷ cs) = K.fits v c && fit_all (K.after v c) cs

  unfoldable pub after_all : V → List Body → V
  after_all v [] = v
  after_all v (c ∷ cs) = after_all (K.after v c) cs

  -- a book that is lost: stale, and its slot fresh
  abbrev pub lost : Book V
  lost = book Stale K.fresh

  -- while the next packet is shelved, its changes are applied, at most `fuel` times
  unfoldable pub climb : ℕ → (ℕ → Found) → ℕ → ℕ → V → Book V
  climb zero shelf i n v = book (AsOf n) v
  climb (suc fuel) shelf i n v = upon (shelf (n + 1)) (book (AsOf n) v) lost
      (λ ms. cond (fit_all v (changes i ms)) (climb fuel shelf i (n + 1) (after_all v (changes i ms))) lost)

  -- 33 or more behind the highest heard is too far
  abbrev pub aged_by : ℕ → V → Mark → Book V
  aged_by heard v Stale = book Stale v
  aged_by heard v (AsOf n) = cond (nat_le (n + 33) heard) lost (book (AsOf n) v)

  abbrev pub aged : ℕ → Book V → Book V
  aged heard x = aged_by heard x.value x.mark

  abbrev pub settle_by : ℕ → (ℕ → Found) → ℕ → V → Mark → Book V
  settle_by heard shelf i v Stale = book Stale v
  settle_by heard shelf i v (AsOf n) = aged heard (climb (heard - n) shelf i n v)

  -- the book of the instrument i, settled
  abbrev pub settle : ℕ → (ℕ → Found) → ℕ → Book V → Book V
  settle heard shelf i x = settle_by heard shelf i x.value x.mark
