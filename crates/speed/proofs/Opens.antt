-- What a passed check of an opening says.
use Rattle.std.proofs.Common.{◌≡◌, Bool, true, false, Ok, Err, Result, refl, arith}
use Rattle.std.specs.Prelude.{if◌then◌else◌}

pub passed : {E : Type 0} (b : Bool) (e : E) (r : Result (Unit {0}) E) (x : Unit {0}) → r ≡ (if b then Ok tt else Err e) → r ≡ Ok x → b ≡ true
passed true e r x p q = refl
passed false e r x p q = grind arith
