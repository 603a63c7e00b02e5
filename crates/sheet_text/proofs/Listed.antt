-- What is asked of all lines of a template, in the words of the library.
use Rattle.std.proofs.Common.{◌≡◌, ℕ, ◌+◌, ◌-◌, Bool, true, false, cond, not, ◌&&◌, ◌||◌, eqb, List, [], ◌∷◌, length, Option, Some, None, MatchOption, refl, ap, ◌∙◌, arith}
use Rattle.std.specs.List.{list_any, find, count_by, slice_get}
use Rattle.std.specs.Option.{option_map, unwrap_or}
use Rattle.std.proofs.lemmas.List.Sums.{sum_by-cons}
use denote.Ref.{Bor}
use Rattle.layout.specs.declared.kinds.Spot.{Spot}
use Rattle.sheet_text.specs.declared.types.Field.{Field}
use Rattle.sheet_text.specs.declared.types.FieldLine.{FieldLine}
use Rattle.sheet_text.specs.Names.{same_field}
use Rattle.sheet_text.specs.Follows.{listed, named, missing, last_from, last_of}
use Rattle.sheet_text.specs.Meaning.{spare, spot_of}

pub any-listed : (t : ℕ) (xs : List FieldLine) → list_any (λ (x : FieldLine). eqb x.template t) xs ≡ listed xs t
any-listed t [] = refl
any-listed t (x ∷ xs) = ap (λ b. eqb x.template t || b) (any-listed t xs)

pub any-named : (t : ℕ) (f : Field) (xs : List FieldLine) → list_any (λ (x : FieldLine). eqb x.template t && same_field x.field f) xs ≡ named xs t f
any-named t f [] = refl
any-named t f (x ∷ xs) = ap (λ b. (eqb x.template t && same_field x.field f) || b) (any-named t f xs)

one : (b : Bool) (n : ℕ) → cond (not b) 1 0 + n ≡ cond b 0 1 + n
one true n = refl
one false n = refl

pub count_by-missing : (t : ℕ) (xs : List FieldLine) (fs : List Field) → count_by (λ (f : Field). not (named xs t f)) fs ≡ missing xs t fs
count_by-missing t xs [] = refl
count_by-missing t xs (f ∷ fs) =
    rw (sum_by-cons (λ (g : Field). cond (not (named xs t g)) 1 0)) (ap (λ n. cond (not (named xs t f)) 1 0 + n) (count_by-missing t xs fs) ∙ one (named xs t f) (missing xs t fs))

spot : (b : Bool) (x : FieldLine) (o : Option FieldLine) (d s : Spot) → unwrap_or (option_map (λ (y : FieldLine). y.spot) o) d ≡ s → unwrap_or (option_map (λ (y : FieldLine). y.spot) (cond b (Some x) o)) d ≡ cond b x.spot s
spot true x o d s e = refl
spot false x o d s e = e

pub find-spot_of : (t : ℕ) (f : Field) (xs : List FieldLine) → unwrap_or (option_map (λ (x : FieldLine). x.spot) (find (λ (x : FieldLine). eqb x.template t && same_field x.field f) xs)) (spare f) ≡ spot_of xs t f
find-spot_of t f [] = refl
find-spot_of t f (x ∷ xs) = spot (eqb x.template t && same_field x.field f) x (find (λ (y : FieldLine). eqb y.template t && same_field y.field f) xs) (spare f) (spot_of xs t f) (find-spot_of t f xs)

-- the spot by the line that a search gave
pub spot-by : (t : ℕ) (f : Field) (xs : List FieldLine) (r : Option (Bor FieldLine)) → option_map (λ (x : Bor FieldLine). x.now) r ≡ find (λ (x : FieldLine). eqb x.template t && same_field x.field f) xs → MatchOption r (spare f ≡ spot_of xs t f) (λ x. x.now.spot ≡ spot_of xs t f)
spot-by t f xs None h = ap (λ o. unwrap_or (option_map (λ (x : FieldLine). x.spot) o) (spare f)) h ∙ find-spot_of t f xs
spot-by t f xs (Some x) h = ap (λ o. unwrap_or (option_map (λ (y : FieldLine). y.spot) o) (spare f)) h ∙ find-spot_of t f xs

last-get : (o : Option FieldLine) (x : FieldLine) (xs : List FieldLine) → slice_get (x ∷ xs) (length xs) ≡ last_from o (x ∷ xs)
last-get o x [] = refl
last-get o x (y ∷ ys) = last-get (Some x) y ys

pub slice_get-last : (xs : List FieldLine) → slice_get xs (length xs - 1) ≡ last_of xs
slice_get-last [] = refl
slice_get-last (x ∷ xs) = let e : length (x ∷ xs) - 1 ≡ length xs = omega arith in rw e (last-get None x xs)
