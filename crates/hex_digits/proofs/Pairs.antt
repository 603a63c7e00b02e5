-- Two digits at a time.
use Rattle.std.proofs.Common.{◌≡◌, ℕ, ◌-◌, ◌≤◌, List, [], ◌∷◌, ◌++◌, length, get_or, take, drop, Some, None, Option, refl, ap, ◌∙◌, append_assoc, arith}
use Rattle.std.specs.Option.{option_map}
use Rattle.std.proofs.lemmas.List.{take_rest}
use Rattle.hex_digits.specs.Hex.{digit_of, byte_of, before, digits_of, word_bytes}

more : (xs : List ℕ) (b : ℕ) (o : Option (List ℕ)) → option_map (λ t. (xs ++ b ∷ []) ++ t) o ≡ option_map (λ t. xs ++ t) (before (Some b) o)
more xs b None = refl
more xs b (Some t) = ap Some (append_assoc xs (b ∷ []) t)

two : (xs left : List ℕ) (b : ℕ) → 2 ≤ length left → Some b ≡ byte_of (digit_of (get_or left 0 0)) (digit_of (get_or left 1 0)) → option_map (λ t. (xs ++ b ∷ []) ++ t) (digits_of (drop 2 left)) ≡ option_map (λ t. xs ++ t) (digits_of left)
two xs [] b l e = absurd (omega arith)
two xs (a ∷ []) b l e = absurd (omega arith)
two xs (a ∷ c ∷ left) b l e = more xs b (digits_of left) ∙ ap (λ o. option_map (λ t. xs ++ t) (before o (digits_of left))) e

-- the first two digits go over into the byte b
pub step : (xs ys left : List ℕ) (b : ℕ) (r : Option (List ℕ)) → 2 ≤ length left → Some b ≡ byte_of (digit_of (get_or left 0 0)) (digit_of (get_or left 1 0)) → ys ≡ xs ++ b ∷ [] → option_map (λ t. xs ++ t) (digits_of left) ≡ r → option_map (λ t. ys ++ t) (digits_of (take (length left - 2) (drop 2 left))) ≡ r
step xs ys left b r l e f inv = rw (take_rest left 2, f) (two xs left b l e ∙ inv)

-- behind nothing
pub start : (ys : List ℕ) (o : Option (List ℕ)) → ys ≡ [] → option_map (λ t. ys ++ t) o ≡ o
start ys None e = refl
start ys (Some t) e = ap (λ x. Some (x ++ t)) e

-- a word of two digits and more
pub long : (xs : List ℕ) → 2 ≤ length xs → digits_of xs ≡ word_bytes xs
long [] l = absurd (omega arith)
long (a ∷ []) l = absurd (omega arith)
long (a ∷ b ∷ cs) l = refl
