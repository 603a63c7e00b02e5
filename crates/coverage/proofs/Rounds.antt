-- Products that fit, and the steps through the round numbers.
use Rattle.std.proofs.Common.{◌≡◌, ℕ, ◌+◌, ◌*◌, ◌/◌, ◌^◌, ◌<◌, ◌≤◌, sym, ap, ◌∙◌, inl, inr, arith}
use native.Mathlib.Nat.{div-le_of_le-mul}
use Rattle.std.proofs.lemmas.Nat.{div-add-mod', mul-le, pow-add}
use Rattle.coverage.specs.Geometry.{Next, Step}

pub scaled_below : (a whole scale : ℕ) → a ≤ whole → a * scale / whole ≤ scale
scaled_below a whole scale le = div-le_of_le-mul whole (mul-le a scale whole scale le (omega arith))

-- what goes more than ten times into a number, eleven times
pub eleven_times : (n w : ℕ) → 10 < n / w → 11 * w ≤ n
eleven_times n w more = omega (arith, mul-le 11 w (n / w) w more (omega arith), div-add-mod' n w)

tenfold : (e : ℕ) → 10 ^ (e + 1) ≡ 10 ^ e * 10
tenfold e = pow-add 10 e 1

pub step_two : (n ten : ℕ) → ((e : ℕ) × (ten ≡ 10 ^ e)) → 10 < n / ten → n / (2 * ten) ≤ 10 → Step n (2 * ten)
step_two n ten power more few =
    record { few = few; least = inr (ten, (power.0, inl (power.1, ap (λ t. 2 * t) power.1)), more) }

pub step_five : (n ten : ℕ) → ((e : ℕ) × (ten ≡ 10 ^ e)) → 10 < n / (2 * ten) → n / (5 * ten) ≤ 10 → Step n (5 * ten)
step_five n ten power more few =
    record { few = few; least = inr (2 * ten, (power.0, inr (inl (ap (λ t. 2 * t) power.1, ap (λ t. 5 * t) power.1))), more) }

pub next_ten : (ten : ℕ) → (power : (e : ℕ) × (ten ≡ 10 ^ e)) → ten * 10 ≡ 10 ^ (power.0 + 1)
next_ten ten power = ap (λ t. t * 10) power.1 ∙ sym (tenfold power.0)

pub after_five : (n ten : ℕ) → ((e : ℕ) × (ten ≡ 10 ^ e)) → 10 < n / (5 * ten) → (s : ℕ) × Next s (ten * 10) × (10 < n / s)
after_five n ten power more = (5 * ten, (power.0, inr (inr (ap (λ t. 5 * t) power.1, next_ten ten power))), more)
