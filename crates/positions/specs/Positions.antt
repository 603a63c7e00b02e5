-- A list by position, counted from 1, in a slice with room for so many: which edits fit n elements, and the list after each.
use Rattle.std.specs.Prelude.{ℕ, ◌+◌, ◌-◌, Bool, ◌&&◌, List, ◌∷◌, ◌++◌, take, drop, nat_le, nat_lt}

-- a new element stands at p, at most right behind the last, and there is room for it
abbrev pub fits_insert : ℕ → ℕ → ℕ → Bool
fits_insert room n p = nat_le 1 p && (nat_le p (n + 1) && nat_lt n room)

-- positions p to q are taken
abbrev pub fits_cut : ℕ → ℕ → ℕ → ℕ → Bool
fits_cut room n p q = nat_le 1 p && (nat_le p q && (nat_le q n && nat_le n room))

-- position p is taken
abbrev pub fits_change : ℕ → ℕ → ℕ → Bool
fits_change room n p = nat_le 1 p && (nat_le p n && nat_le n room)

module _ {X : Type 0} where
  -- x at position p; those from p on move down
  abbrev pub inserted_at : List X → ℕ → X → List X
  inserted_at xs p x = take (p - 1) xs ++ (x ∷ drop (p - 1) xs)

  -- x in the place of the element at p
  abbrev pub changed_at : List X → ℕ → X → List X
  changed_at xs p x = take (p - 1) xs ++ (x ∷ drop p xs)

  -- without the elements from p to q; those behind move up
  abbrev pub cut_out : List X → ℕ → ℕ → List X
  cut_out xs p q = take (p - 1) xs ++ drop q xs
