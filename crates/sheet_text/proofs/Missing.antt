-- How many fields a template still lacks, as lines are added.
use Rattle.std.proofs.Common.{◌≡◌, ℕ, ◌+◌, ◌≤◌, Bool, true, false, cond, ◌&&◌, ◌||◌, eqb, List, [], ◌∷◌, ◌++◌, length, Some, None, Option, sym, refl, ap, ◌∙◌, ⊎_elim, arith}
use Rattle.std.proofs.lemmas.Bool.{false≢true, eqb-true, eq-eqb, or_cases, or_parts}
use Rattle.layout.specs.declared.kinds.Kind.{Kind}
use Rattle.layout.specs.declared.kinds.Kind.TheVariants.{Order, Delete, Mass, Empty, Stat, Header, Entries}
use Rattle.sheet_text.specs.declared.types.Field.{Field}
use Rattle.sheet_text.specs.declared.types.FieldLine.{FieldLine}
use Rattle.sheet_text.specs.Names.{kind_number, field_number, same_field, among, fields_of}
use Rattle.sheet_text.specs.Follows.{listed, named, missing, last_from, last_of}

or_assoc : (a b c : Bool) → (a || (b || c)) ≡ ((a || b) || c)
or_assoc true b c = refl
or_assoc false b c = refl

or_none_lem : (a : Bool) → (a || false) ≡ a
or_none_lem true = refl
or_none_lem false = refl

named_push : (xs : List FieldLine) (x : FieldLine) (t : ℕ) (f : Field) → named (xs ++ x ∷ []) t f ≡ (named xs t f || (eqb x.template t && same_field x.field f))
named_push [] x t f = or_none_lem (eqb x.template t && same_field x.field f)
named_push (y ∷ xs) x t f =
    ap (λ b. (eqb y.template t && same_field y.field f) || b) (named_push xs x t f)
    ∙ or_assoc (eqb y.template t && same_field y.field f) (named xs t f) (eqb x.template t && same_field x.field f)

named-same : (xs : List FieldLine) (t : ℕ) (f g : Field) → field_number f ≡ field_number g → named xs t f ≡ named xs t g
named-same [] t f g e = refl
named-same (x ∷ xs) t f g e =
    ap (λ n. (eqb x.template t && eqb (field_number x.field) n) || named xs t f) e
    ∙ ap (λ b. (eqb x.template t && same_field x.field g) || b) (named-same xs t f g e)

pub unlisted_unnamed : (xs : List FieldLine) (t : ℕ) (f : Field) → listed xs t ≡ false → named xs t f ≡ false
unlisted_unnamed [] t f h = refl
unlisted_unnamed (x ∷ xs) t f h =
    let p = or_parts (eqb x.template t) (listed xs t) h in
    ap (λ b. (b && same_field x.field f) || named xs t f) p.0 ∙ unlisted_unnamed xs t f p.1

abbrev gap : Bool → ℕ
gap b = cond b 0 1

fewer : (a b : Bool) → gap (a || b) ≤ gap a
fewer true b = omega arith
fewer false true = omega arith
fewer false false = omega arith

pub missing_no_more : (xs : List FieldLine) (x : FieldLine) (t : ℕ) (fs : List Field) → missing (xs ++ x ∷ []) t fs ≤ missing xs t fs
missing_no_more xs x t [] = omega arith
missing_no_more xs x t (f ∷ fs) =
    let e : gap (named (xs ++ x ∷ []) t f) ≡ gap (named xs t f || (eqb x.template t && same_field x.field f)) = ap gap (named_push xs x t f) in
    omega (arith, e, fewer (named xs t f) (eqb x.template t && same_field x.field f), missing_no_more xs x t fs)

eqb_sym : (a b : ℕ) → eqb a b ≡ true → eqb b a ≡ true
eqb_sym a b h = eq-eqb b a (sym (eqb-true a b h))

-- a line that names one more of the fields
pub missing-less : (xs : List FieldLine) (x : FieldLine) (fs : List Field) → among fs x.field ≡ true → named xs x.template x.field ≡ false → missing (xs ++ x ∷ []) x.template fs + 1 ≤ missing xs x.template fs
missing-less xs x [] h n = absurd (false≢true h)
missing-less xs x (g ∷ gs) h n =
    let t = x.template in
    let after = named_push xs x t g in
    ⊎_elim
    (λ s.
    let was : named xs t g ≡ false = named-same xs t g x.field (eqb-true _ _ s) ∙ n in
    let here : (eqb t t && same_field x.field g) ≡ true = ap (λ b. b && same_field x.field g) (eq-eqb t t refl) ∙ eqb_sym _ _ s in
    let is : named (xs ++ x ∷ []) t g ≡ true = after ∙ (ap (λ b. b || (eqb t t && same_field x.field g)) was ∙ here) in
    let one : gap (named xs t g) ≡ 1 = ap gap was in
    let none : gap (named (xs ++ x ∷ []) t g) ≡ 0 = ap gap is in
    omega (arith, one, none, missing_no_more xs x t gs))
    (λ m.
    let e : gap (named (xs ++ x ∷ []) t g) ≡ gap (named xs t g || (eqb t t && same_field x.field g)) = ap gap after in
    omega (arith, e, fewer (named xs t g) (eqb t t && same_field x.field g), missing-less xs x gs m n))
    (or_cases (same_field g x.field) (among gs x.field) h)

pub missing-most : (xs : List FieldLine) (t : ℕ) (fs : List Field) → missing xs t fs ≤ length fs
missing-most xs t [] = omega arith
missing-most xs t (f ∷ fs) = omega (arith, fewer false (named xs t f), missing-most xs t fs)

pub eight_fields : (k : Kind) → length (fields_of k) ≤ 8
eight_fields Order = omega arith
eight_fields Delete = omega arith
eight_fields Mass = omega arith
eight_fields Empty = omega arith
eight_fields Stat = omega arith
eight_fields Header = omega arith
eight_fields Entries = omega arith

kind_by : ℕ → Kind
kind_by n =
    cond (eqb n 0) Order (cond (eqb n 1) Delete (cond (eqb n 2) Mass (cond (eqb n 3) Empty (cond (eqb n 4) Stat (cond (eqb n 5) Header Entries)))))

kind_back : (k : Kind) → kind_by (kind_number k) ≡ k
unfolding kind_by
kind_back Order = refl
kind_back Delete = refl
kind_back Mass = refl
kind_back Empty = refl
kind_back Stat = refl
kind_back Header = refl
kind_back Entries = refl

pub same_kind_lem : (a b : Kind) → kind_number a ≡ kind_number b → a ≡ b
same_kind_lem a b e = sym (kind_back a) ∙ (ap kind_by e ∙ kind_back b)

last_push_from : (xs : List FieldLine) (x : FieldLine) (o : Option FieldLine) → last_from o (xs ++ x ∷ []) ≡ Some x
last_push_from [] x o = refl
last_push_from (y ∷ xs) x o = last_push_from xs x (Some y)

pub last_push : (xs : List FieldLine) (x : FieldLine) → last_of (xs ++ x ∷ []) ≡ Some x
last_push xs x = last_push_from xs x None
