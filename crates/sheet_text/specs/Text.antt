-- Lines, words and figures of a text.
use Rattle.std.specs.Prelude.{ℕ, ◌+◌, ◌-◌, ◌*◌, Bool, true, false, cond, ◌&&◌, List, [], ◌∷◌, ◌++◌, length, Some, None, Option, ◌==◌, nat_le, nat_lt}

-- a line without its line feed; None for one that has more than 64 bytes or lacks its line feed
abbrev pub Row : Type 0
Row = Option (List ℕ)

abbrev pub ended : List ℕ → Row
ended line = cond (nat_le (length line) 64) (Some line) None

-- the rows of `line` with the bytes that follow
abbrev pub rows_from : List ℕ → List ℕ → List Row
rows_from line [] = cond (length line == 0) [] (None ∷ [])
rows_from line (b ∷ bs) = cond (b == 10) (ended line ∷ rows_from [] bs) (rows_from (line ++ b ∷ []) bs)

-- the rows of a text
abbrev pub rows : List ℕ → List Row
rows bs = rows_from [] bs

abbrev pub and_then : {A B : Type 0} → Option A → (A → Option B) → Option B
and_then None f = None
and_then (Some x) f = f x

abbrev pub before : ℕ → Option (List ℕ × List ℕ) → Option (List ℕ × List ℕ)
before x None = None
before x (Some p) = Some (x ∷ p.0, p.1)

-- the bytes before the first b, and those behind it
abbrev pub cut_at : ℕ → List ℕ → Option (List ℕ × List ℕ)
cut_at b [] = None
cut_at b (x ∷ xs) = cond (x == b) (Some ([], xs)) (before x (cut_at b xs))

abbrev pub is_figure : ℕ → Bool
is_figure d = nat_le 48 d && nat_le d 57

-- the number that n followed by these figures stands for
abbrev pub figures_from : ℕ → List ℕ → Option ℕ
figures_from n [] = Some n
figures_from n (d ∷ ds) = cond (is_figure d) (figures_from (n * 10 + (d - 48)) ds) None

abbrev pub up_to_most : ℕ → ℕ → Option ℕ
up_to_most most n = cond (nat_le n most) (Some n) None

-- figures in base ten without sign and without leading zeros, of a number that is at most `most`
abbrev pub number_of : ℕ → List ℕ → Option ℕ
number_of most [] = None
number_of most (d ∷ ds) = cond (d == 48 && nat_lt 0 (length ds)) None (and_then (figures_from 0 (d ∷ ds)) (up_to_most most))

-- whether there is a first row, and it is a line that has its line feed and is short enough
abbrev pub starts_well : List Row → Bool
starts_well [] = false
starts_well (None ∷ rs) = false
starts_well (Some line ∷ rs) = true
