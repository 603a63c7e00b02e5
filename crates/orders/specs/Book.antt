-- A book: the orders of both sides by position.
use Rattle.std.specs.Prelude.{ℕ, Bool, cond, ◌||◌, List, [], ◌==◌}
use Rattle.message.specs.declared.values.Order.{Order}

pub record Book : Type 0 where
  pub bids : List Order
  pub offers : List Order

abbrev pub book : List Order → List Order → Book
book xs ys = record { bids = xs; offers = ys }

abbrev pub empty_book : Book
empty_book = book [] []

-- a side is written as the digit 0, for bids, or 1, for offers
abbrev pub is_side : ℕ → Bool
is_side s = s == 48 || s == 49

abbrev pub on_side : {A : Type 0} → ℕ → A → A → A
on_side s bid offer = cond (s == 48) bid offer

abbrev pub side_of : Book → ℕ → List Order
side_of v s = on_side s v.bids v.offers

abbrev pub with_side : Book → ℕ → List Order → Book
with_side v s xs = on_side s (book xs v.offers) (book v.bids xs)
