-- Worked values of a book by position, and of a field that is 0.
use Rattle.std.specs.Prelude.{◌≡◌, ℕ, true, List, [], ◌∷◌, Some}
use Rattle.layout.specs.declared.kinds.Actions.{Actions}
use Rattle.layout.specs.declared.width.Width.TheVariants.{Four}
use Rattle.layout.specs.Wire.{field_at}
use Rattle.message.specs.declared.values.Order.{Order}
use Rattle.message.specs.Meaning.{Body, put, mass}
use Rattle.orders.specs.Book.{Book, book}
use Rattle.orders.specs.Kind.{setup, fits_book, after_book}

-- new is 0, change 1, the top cut 4 and the bottom cut 3
abbrev pub actions : Actions
actions = record { new = 0; change = 1; topcut = 4; bottomcut = 3 }

abbrev pub bids : List Order → Book
bids xs = book xs []

abbrev pub new_at : ℕ → Order → Body
new_at p x = put (record { action = 0; side = 48; position = p; order = x })

abbrev pub cut_at : ℕ → ℕ → Body
cut_at a p = mass (record { action = a; side = 48; position = p })

-- with bids A B C: new D at 2 gives A D B C; then the top cut at 2 gives B C, and the bottom cut at 2 gives B
pub record BookPoints : Type 0 where
  pub fits_new : (a b c d : Order) → fits_book (setup actions 8) (bids (a ∷ b ∷ c ∷ [])) (new_at 2 d) ≡ true
  pub after_new : (a b c d : Order) → after_book (setup actions 8) (bids (a ∷ b ∷ c ∷ [])) (new_at 2 d) ≡ bids (a ∷ d ∷ b ∷ c ∷ [])
  pub fits_top : (a b c d : Order) → fits_book (setup actions 8) (bids (a ∷ d ∷ b ∷ c ∷ [])) (cut_at 4 2) ≡ true
  pub after_top : (a b c d : Order) → after_book (setup actions 8) (bids (a ∷ d ∷ b ∷ c ∷ [])) (cut_at 4 2) ≡ bids (b ∷ c ∷ [])
  pub fits_bottom : (b c : Order) → fits_book (setup actions 8) (bids (b ∷ c ∷ [])) (cut_at 3 2) ≡ true
  pub after_bottom : (b c : Order) → after_book (setup actions 8) (bids (b ∷ c ∷ [])) (cut_at 3 2) ≡ bids (b ∷ [])
  -- a firm of four bytes that are 0 is the number 0
  pub firm : field_at (0 ∷ 0 ∷ 0 ∷ 0 ∷ []) (record { offset = 0; width = Four }) ≡ Some 0
