-- Numbers in base ten, of at most 64 bits.
use Rattle.std.specs.Prelude.{◌≡◌, ℕ, ◌-◌, ◌^◌, cond, List, [], ◌∷◌, length, Some, None, Ok, Err, Option, Result, MatchOption, ◌==◌, nat_le}
use Rattle.std.specs.List.{slice_split}
use Rattle.sheet_text.specs.Text.{and_then, figures_from, up_to_most}

-- the number that a word stands for: at least one figure
abbrev pub decimal_of : List ℕ → Option ℕ
decimal_of word = cond (length word == 0) None (and_then (figures_from 0 word) (up_to_most (2 ^ 64 - 1)))

abbrev pub up_to : ℕ → Option ℕ → Option ℕ
up_to most None = None
up_to most (Some n) = cond (nat_le n most) (Some n) None

-- what a word stands for, where a type holds that: the conversion from 64 bits to the type gives it
abbrev pub ReadAs : {T E : Type 0} → (ℕ → Result T E → Type 0) → Option ℕ → Option T → Type 0
ReadAs gives None r = r ≡ None
ReadAs gives (Some n) r = MatchOption r ((e : _) × gives n (Err e)) (λ t. gives n (Ok t))

-- the numbers that words stand for, where each stands for one
abbrev pub decimals : List (List ℕ) → Option (List ℕ)
decimals [] = Some []
decimals (word ∷ words) = and_then (decimal_of word) (λ n. and_then (decimals words) (λ ns. Some (n ∷ ns)))

-- the numbers of a text whose words a byte parts
abbrev pub numbers_of : ℕ → List ℕ → Option (List ℕ)
numbers_of separator text = decimals (slice_split (λ b. b == separator) text)
