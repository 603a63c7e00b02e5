-- What stands beside a word in a table.
use Rattle.std.specs.Prelude.{ℕ, cond, List, [], ◌∷◌, Some, None, Option}
use Rattle.std.specs.Str.{bytes_eq}

abbrev pub lookup : {V : Type 0} → List (List ℕ × V) → List ℕ → Option V
lookup [] word = None
lookup (e ∷ es) word = cond (bytes_eq word e.0) (Some e.1) (lookup es word)
