-- What counts of templates keep, and a field line that stands for none.
use Rattle.std.proofs.Common.{◌≡◌, ℕ, ◌+◌, ◌≤◌, Bool, true, false, cond, not, ◌&&◌, refl, arith}
use mir.Val.{bool_byte}
use Rattle.layout.specs.declared.width.Width.TheVariants.{One}
use Rattle.layout.specs.declared.kinds.Kind.TheVariants.{Order}
use Rattle.sheet_text.specs.declared.types.Field.TheVariants.{Security}
use Rattle.sheet_text.specs.declared.types.FieldLine.{FieldLine}

-- a line of a template that is not there yet, and one of a template that is
pub record Counted (a s more smore total stotal i : ℕ) : Type 0 where
  pub all : a + more ≡ total
  pub stats : s + smore ≡ stotal
  pub within : (a ≤ i) × (s ≤ i)

pub grown : (all stats rest srest more smore total stotal i a s : ℕ) (l k : Bool) → Counted all stats rest srest total stotal i → rest ≡ cond (not l) 1 0 + more → srest ≡ cond (k && not l) 1 0 + smore → l ≡ false → a ≡ all + 1 → s ≡ stats + cond k 1 0 → Counted a s more smore total stotal (i + 1)
grown all stats rest srest more smore total stotal i a s true k n e f h g t = absurd cc
grown all stats rest srest more smore total stotal i a s false true n e f h g t = let x = n.all in let y = n.stats in let z = n.within.0 in let u = n.within.1 in record { all = omega arith; stats = omega arith; within = (omega arith, omega arith) }
grown all stats rest srest more smore total stotal i a s false false n e f h g t = let x = n.all in let y = n.stats in let z = n.within.0 in let u = n.within.1 in record { all = omega arith; stats = omega arith; within = (omega arith, omega arith) }

pub kept : (all stats rest srest more smore total stotal i a s : ℕ) (l k : Bool) → Counted all stats rest srest total stotal i → rest ≡ cond (not l) 1 0 + more → srest ≡ cond (k && not l) 1 0 + smore → l ≡ true → a ≡ all → s ≡ stats → Counted a s more smore total stotal (i + 1)
kept all stats rest srest more smore total stotal i a s false k n e f h g t = absurd cc
kept all stats rest srest more smore total stotal i a s true true n e f h g t = let x = n.all in let y = n.stats in let z = n.within.0 in let u = n.within.1 in record { all = omega arith; stats = omega arith; within = (omega arith, omega arith) }
kept all stats rest srest more smore total stotal i a s true false n e f h g t = let x = n.all in let y = n.stats in let z = n.within.0 in let u = n.within.1 in record { all = omega arith; stats = omega arith; within = (omega arith, omega arith) }

pub bool_byte-cond : (b : Bool) → bool_byte b ≡ cond b 1 0
bool_byte-cond true = refl
bool_byte-cond false = refl

-- what an element reads as past the end of its list
abbrev pub blank : FieldLine
blank = record { template = 0; kind = Order; field = Security; spot = record { offset = 0; width = One } }
