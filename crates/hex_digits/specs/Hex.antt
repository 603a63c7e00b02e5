-- Bytes written in hexadecimal digits.
use Rattle.std.specs.Prelude.{ℕ, ◌+◌, ◌-◌, ◌*◌, cond, ◌&&◌, List, [], ◌∷◌, Some, None, Option, ◌==◌, nat_le}

-- a figure 0 to 9, or a lowercase letter a to f
abbrev pub digit_of : ℕ → Option ℕ
digit_of c = cond (nat_le 48 c && nat_le c 57) (Some (c - 48)) (cond (nat_le 97 c && nat_le c 102) (Some (c - 87)) None)

-- the byte of two digits, the higher first
abbrev pub byte_of : Option ℕ → Option ℕ → Option ℕ
byte_of None y = None
byte_of (Some x) None = None
byte_of (Some x) (Some y) = Some (x * 16 + y)

abbrev pub before : Option ℕ → Option (List ℕ) → Option (List ℕ)
before None bs = None
before (Some b) None = None
before (Some b) (Some bs) = Some (b ∷ bs)

-- the bytes of an even number of digits
abbrev pub digits_of : List ℕ → Option (List ℕ)
digits_of [] = Some []
digits_of (a ∷ []) = None
digits_of (a ∷ b ∷ cs) = before (byte_of (digit_of a) (digit_of b)) (digits_of cs)

-- the bytes that a word stands for: digits, at least two, or a lone `-` for no byte
abbrev pub word_bytes : List ℕ → Option (List ℕ)
word_bytes [] = None
word_bytes (c ∷ []) = cond (c == 45) (Some []) None
word_bytes (a ∷ b ∷ cs) = digits_of (a ∷ b ∷ cs)
