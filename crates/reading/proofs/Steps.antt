-- What a step over a part of a window says of the file that the window stands in.
use Rattle.std.proofs.Common.{◌≡◌, ℕ, ◌+◌, Bool, true, List, [], ◌∷◌, ◌++◌, ◌⊎◌, drop, Ok, Result, sym, ap, ◌∙◌, subst, ⊎_elim, arith}
use Rattle.std.proofs.lemmas.List.{drop-drop}
use Rattle.std.proofs.lemmas.Bool.Decides.{nat_tests}
use Rattle.capture.specs.declared.fault.CaptureFault.{CaptureFault}
use Rattle.capture.specs.declared.format.Format.{Format}
use Rattle.capture.specs.declared.step.Step.{Step}
use Rattle.capture.specs.declared.step.Step.TheVariants.{End, More}
use Rattle.capture.specs.Held.{Held}
use Rattle.capture.specs.Records.{contents}
use Rattle.capture.specs.Window.{Agrees, seen, step_of, more}

-- what a file holds, told of equal bytes at equal offsets
pub same-contents : (f : Format) (v w : List ℕ) (i j : ℕ) → v ≡ w → i ≡ j → contents f 0 v i ≡ contents f 0 w j
same-contents f v w i j e h = ap (λ l. contents f 0 l i) e ∙ ap (λ k. contents f 0 w k) h

-- the part from `at` on is shown at `off`
pub from-part :
    (f : Format) (w part rest : List ℕ) (offset at off : ℕ) → part ≡ drop at w → off ≡ offset + at
    → contents f 0 (drop at w ++ rest) (offset + at) ≡ contents f 0 (part ++ rest) off
from-part f w part rest offset at off p o =
    sym (same-contents f (part ++ rest) (drop at w ++ rest) off (offset + at) (ap (λ l. l ++ rest) p) o)

-- and behind a record of n bytes of it, at n more
pub behind-record :
    (f : Format) (w part rest : List ℕ) (offset at off n : ℕ) → part ≡ drop at w → off ≡ offset + at
    → contents f 0 (drop n part ++ rest) (off + n) ≡ contents f 0 (drop (at + n) w ++ rest) (offset + (at + n))
behind-record f w part rest offset at off n p o =
    let further : drop n part ≡ drop (at + n) w = ap (λ l. drop n l) p ∙ drop-drop n at w in
    same-contents f (drop n part ++ rest) (drop (at + n) w ++ rest) (off + n) (offset + (at + n)) (ap (λ l. l ++ rest) further) (omega arith)

pub next-record :
    (f : Format) (w part rest : List ℕ) (offset at off n : ℕ) (held : Held) → part ≡ drop at w → off ≡ offset + at
    → contents f 0 (part ++ rest) off ≡ Ok held ∷ contents f 0 (drop n part ++ rest) (off + n)
    → contents f 0 (drop at w ++ rest) (offset + at) ≡ Ok held ∷ contents f 0 (drop (at + n) w ++ rest) (offset + (at + n))
next-record f w part rest offset at off n held p o is =
    from-part f w part rest offset at off p o ∙ (is ∙ ap (λ (l : List (Result Held CaptureFault)). Ok held ∷ l) (behind-record f w part rest offset at off n p o))

-- where the file ends with the window, no more bytes are wanted
never-more : (f : Format) (w : List ℕ) (at n : ℕ) {P : Type 0} → Ok (more n) ≡ step_of f w at true → P
never-more f w at n e = grind (arith, nat_tests)

-- and there a step that takes no record says that nothing is left
pub none-left :
    (f : Format) (w part rest : List ℕ) (offset at off : ℕ) (last : Bool) (x : Step) → part ≡ drop at w → off ≡ offset + at → last ≡ true
    → seen (Ok x) ≡ step_of f part off last → Agrees f part rest off (seen (Ok x)) → ((n : ℕ) × x ≡ More n) ⊎ (x ≡ End)
    → contents f 0 (drop at w ++ rest) (offset + at) ≡ []
none-left f w part rest offset at off last x p o e is agrees =
    let value = is ∙ ap (λ b. step_of f part off b) e in
    ⊎_elim
    (λ m. never-more f part off m.0 (sym (ap (λ s. seen (Ok s)) m.1) ∙ value))
    (λ ends. from-part f w part rest offset at off p o ∙ subst (λ (s : Step). Agrees f part rest off (seen (Ok s))) ends agrees)
