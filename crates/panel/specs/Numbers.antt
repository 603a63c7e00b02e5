-- A panel: for each template of a list, its latest number or none.
use Rattle.std.specs.Prelude.{ℕ, Bool, false, cond, ◌||◌, List, [], ◌∷◌, length, replicate, ℤ, Some, None, Option, ◌==◌}

-- the numbers stand in the order of their templates
abbrev pub Panel : Type 0
Panel = List (Option ℤ)

abbrev pub no_numbers : List ℕ → Panel
no_numbers ts = replicate (length ts) None

-- x is the latest number of template t
abbrev pub noted : List ℕ → Panel → ℕ → ℤ → Panel
noted [] v t x = v
noted (u ∷ us) [] t x = []
noted (u ∷ us) (n ∷ v) t x = cond (u == t) (Some x) n ∷ noted us v t x

-- the number of template t; none where it is not listed
abbrev pub number_of : List ℕ → Panel → ℕ → Option ℤ
number_of [] v t = None
number_of (u ∷ us) [] t = None
number_of (u ∷ us) (n ∷ v) t = cond (u == t) n (number_of us v t)

abbrev pub is_listed : List ℕ → ℕ → Bool
is_listed [] t = false
is_listed (u ∷ us) t = u == t || is_listed us t
