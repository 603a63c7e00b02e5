-- What each call of a store answers and leaves.
use Rattle.std.specs.Prelude.{ℕ, Bool, cond, length, Ok, Err, Result, nat_lt, slice_index_or, slice_set}
use Rattle.message.specs.declared.values.HeaderFields.{HeaderFields}
use Rattle.message.specs.Meaning.{Body, Part}
use Rattle.store.specs.declared.fault.StoreFault.{StoreFault}
use Rattle.store.specs.declared.fault.StoreFault.TheVariants.{Slot, Unfit, Owed}
use Rattle.store.specs.Kind.{Kind, Model}

module _ {V O : Type 0} (K : Kind V O) (s : Model V O) where
  abbrev pub has_slot : ℕ → Bool
  has_slot i = nat_lt i (length s.slots)

  abbrev pub value_at : ℕ → V
  value_at i = slice_index_or s.slots i K.fresh

  abbrev pub with_slot : ℕ → V → Model V O
  with_slot i v = record { slots = slice_set s.slots i v; staged = s.staged; owed = s.owed }

  abbrev pub with_staged : V → O → Model V O
  with_staged x o = record { slots = s.slots; staged = x; owed = o }

  -- a refusal where there is no such slot
  abbrev pub in_slot : {A : Type 0} → ℕ → Result A StoreFault → Result A StoreFault
  in_slot i r = cond (has_slot i) r (Err (Slot i))

  abbrev pub unless : StoreFault → Bool → Result (Unit {0}) StoreFault
  unless fault ok = cond ok (Ok tt) (Err fault)

  abbrev pub fits_at : ℕ → Body → Bool
  fits_at i b = K.fits (value_at i) b

  abbrev pub fits_answer : ℕ → Body → Result Bool StoreFault
  fits_answer i b = in_slot i (Ok (fits_at i b))

  abbrev pub apply_answer : ℕ → Body → Result (Unit {0}) StoreFault
  apply_answer i b = in_slot i (unless Unfit (fits_at i b))

  abbrev pub applied : ℕ → Body → Model V O
  applied i b = cond (has_slot i) (cond (fits_at i b) (with_slot i (K.after (value_at i) b)) s) s

  abbrev pub freshen_answer : ℕ → Result (Unit {0}) StoreFault
  freshen_answer i = in_slot i (Ok tt)

  abbrev pub freshened : ℕ → Model V O
  freshened i = cond (has_slot i) (with_slot i K.fresh) s

  abbrev pub stage_answer : HeaderFields → Result (Unit {0}) StoreFault
  stage_answer h = unless Unfit (K.holds h)

  abbrev pub staging : HeaderFields → Model V O
  staging h = cond (K.holds h) (with_staged (K.begins h) (K.owes h)) s

  abbrev pub takes_piece : Part → Bool
  takes_piece p = K.takes s.staged s.owed p

  abbrev pub add_answer : Part → Result (Unit {0}) StoreFault
  add_answer p = unless Unfit (takes_piece p)

  -- the staged value after a piece, and what is owed after it
  abbrev pub with_piece : Part → Model V O
  with_piece p = with_staged (K.put s.staged s.owed p) (K.less s.owed p)

  abbrev pub added : Part → Model V O
  added p = cond (takes_piece p) (with_piece p) s

  abbrev pub is_whole : Bool
  is_whole = K.whole s.owed

  abbrev pub adopt_answer : ℕ → Result (Unit {0}) StoreFault
  adopt_answer i = in_slot i (unless Owed is_whole)

  abbrev pub adopted : ℕ → Model V O
  adopted i = cond (has_slot i) (cond is_whole (with_slot i s.staged) s) s
