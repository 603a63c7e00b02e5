-- Numbers by spans: which numbers lie in them, and spans in rising order with a gap between each two.
use Rattle.std.specs.Prelude.{◌≡◌, ℕ, ◌+◌, ◌≤◌, Bool, true, false, ◌&&◌, ◌||◌, List, [], ◌∷◌, ◌==◌, nat_le}
use Rattle.numbering.specs.declared.span.Span.{Span}

abbrev pub inside : Span → ℕ → Bool
inside s m = nat_le s.low m && nat_le m s.high

-- whether a number lies in one of the spans
abbrev pub held : List Span → ℕ → Bool
held [] m = false
held (s ∷ ss) m = inside s m || held ss m

-- from `b` on the spans rise, and at least one number lies between each two
abbrev pub Rises : ℕ → List Span → Type 0
Rises b [] = Unit {0}
Rises b (s ∷ ss) = (b ≤ s.low) × (s.low ≤ s.high) × Rises (s.high + 2) ss

-- the same as a test
abbrev pub rising : ℕ → List Span → Bool
rising b [] = true
rising b (s ∷ ss) = nat_le b s.low && (nat_le s.low s.high && rising (s.high + 2) ss)

-- every span ends below `n` and does not touch it
abbrev pub Clear : ℕ → List Span → Type 0
Clear n [] = Unit {0}
Clear n (s ∷ ss) = (s.high + 2 ≤ n) × Clear n ss

-- the first span touches `n`, has it, or stands above it
abbrev pub Near : ℕ → List Span → Type 0
Near n [] = Unit {0}
Near n (s ∷ ss) = n ≤ s.high + 1

-- the spans after `n` was entered: they rise, and have `n` and what they had before
abbrev pub Entered : ℕ → List Span → List Span → Type 0
Entered n before after = Rises 0 after × ((m : ℕ) → held after m ≡ (m == n || held before m))
