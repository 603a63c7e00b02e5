-- When a header and pieces are an image of a book.
use Rattle.std.specs.Prelude.{◌≡◌, ℕ, suc, ◌≤◌, cond, ◌⊎◌, List, [], ◌∷◌, length, ◌==◌}
use Rattle.message.specs.declared.values.Order.{Order}
use Rattle.message.specs.declared.values.HeaderFields.{HeaderFields}
use Rattle.message.specs.Meaning.{Part, entry, number, torn}
use Rattle.orders.specs.Book.{Book}
use Rattle.orders.specs.Kind.{Setup}

-- the entries of one side with their positions, in the order in which they come
unfoldable pub entered : ℕ → List Part → List (ℕ × Order)
entered s [] = []
entered s (entry e ∷ ps) = cond (e.side == s) ((e.position, e.order) ∷ entered s ps) (entered s ps)
entered s (number f ∷ ps) = entered s ps
entered s (torn ∷ ps) = entered s ps

-- orders with the positions from p on
unfoldable pub numbered : ℕ → List Order → List (ℕ × Order)
numbered p [] = []
numbered p (x ∷ xs) = (p, x) ∷ numbered (suc p) xs

-- every entry is of one of the two sides, and no piece misses a field
unfoldable pub Sided : List Part → Type 0
Sided [] = Unit {0}
Sided (entry e ∷ ps) = ((e.side ≡ 48) ⊎ (e.side ≡ 49)) × Sided ps
Sided (number f ∷ ps) = Sided ps
Sided (torn ∷ ps) = ⊥

-- both counts, and each side's orders by position; the sides may take turns
pub record BookImage (o : Setup) (h : HeaderFields) (ps : List Part) (v : Book) : Type 0 where
  pub count_bids : h.bids ≡ length v.bids
  pub count_offers : h.offers ≡ length v.offers
  pub room_bids : h.bids ≤ o.depth
  pub room_offers : h.offers ≤ o.depth
  pub all_bids : entered 48 ps ≡ numbered 1 v.bids
  pub all_offers : entered 49 ps ≡ numbered 1 v.offers
  pub sided : Sided ps
