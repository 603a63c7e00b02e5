-- Each line's template is found among the templates of the lines, with a layout of the line's kind.
use Rattle.std.proofs.Common.{◌≡◌, ℕ, true, false, cond, not, eqb, List, [], ◌∷◌, ◌++◌, map, Some, None, Option, sym, refl, ap, ◌∙◌, subst, ⊎_elim, arith}
use Rattle.std.proofs.lemmas.List.{append-nil, map_push}
use Rattle.std.proofs.lemmas.Bool.{false≢true, cases_Bool, and_parts, or_parts, eqb-true, eq-eqb, cond-true, cond-false}
use Rattle.layout.specs.declared.kinds.Layout.{Layout}
use Rattle.layout.specs.declared.template.Template.{Template}
use Rattle.layout.specs.Lawful.{find}
use Rattle.sheet_text.specs.declared.types.FieldLine.{FieldLine}
use Rattle.sheet_text.specs.Names.{same_kind}
use Rattle.sheet_text.specs.Follows.{listed, named, firsts, last_of, goes_on, may_follow}
use Rattle.sheet_text.specs.Meaning.{layout_of, template_of, templates_of, listing}
use Rattle.sheet_text.proofs.Builds.{unlisted_firsts}
use Rattle.sheet_text.proofs.Keeps.{firsts_push}
use Rattle.sheet_text.proofs.Missing.{same_kind_lem, last_push}

pub find_in : List (ℕ × Layout) → ℕ → Option Layout
find_in [] id = None
find_in (e ∷ es) id = cond (eqb e.0 id) (Some e.1) (find_in es id)

find-listing : (ts : List Template) (id : ℕ) → find ts id ≡ find_in (listing ts) id
unfolding find_in
find-listing [] id = refl
find-listing (t ∷ ts) id = ap (cond (eqb t.id id) (Some t.layout)) (find-listing ts id)

-- what is found stays found behind others
find_stays : (es : List (ℕ × Layout)) (e : ℕ × Layout) (id : ℕ) (y : Layout) → find_in es id ≡ Some y → find_in (es ++ e ∷ []) id ≡ Some y
unfolding find_in
find_stays [] e id y h = let z : ◌≡◌ {A = ℕ} 0 1 = cc in absurd (omega arith)
find_stays (a ∷ es) e id y h =
    ⊎_elim
    (λ t. cond-true _ _ _ t ∙ (sym (cond-true _ _ _ t) ∙ h))
    (λ f. cond-false _ _ _ f ∙ find_stays es e id y (sym (cond-false _ _ _ f) ∙ h))
    (cases_Bool (eqb a.0 id))

find_new : (zs fs : List FieldLine) (z : FieldLine) → listed fs z.template ≡ false → find_in (map (template_of zs) fs ++ template_of zs z ∷ []) z.template ≡ Some (layout_of zs z.template z.kind)
unfolding find_in
find_new zs [] z h = cond-true _ _ _ (eq-eqb z.template z.template refl)
find_new zs (f ∷ fs) z h =
    let p = or_parts (eqb f.template z.template) (listed fs z.template) h in
    cond-false _ _ _ p.0 ∙ find_new zs fs z p.1

-- the template of y, with a layout of y's kind
abbrev pub Has : List FieldLine → List FieldLine → FieldLine → Type 0
Has zs xs y = find_in (map (template_of zs) (firsts [] xs)) y.template ≡ Some (layout_of zs y.template y.kind)

has_going : (zs xs : List FieldLine) (z : FieldLine) (o : Option FieldLine) → ((w : FieldLine) → o ≡ Some w → Has zs xs w) → goes_on o z ≡ true → Has zs xs z
has_going zs xs z None l g = absurd (false≢true g)
has_going zs xs z (Some w) l g =
    let p = and_parts (eqb w.template z.template) (same_kind w.kind z.kind) g in
    let at = l w refl in
    subst (λ k. find_in (map (template_of zs) (firsts [] xs)) z.template ≡ Some (layout_of zs z.template k)) (same_kind_lem _ _ (eqb-true _ _ p.1))
    (subst (λ t. find_in (map (template_of zs) (firsts [] xs)) t ≡ Some (layout_of zs t w.kind)) (eqb-true _ _ p.0) at)

same-firsts : (zs xs : List FieldLine) (z y : FieldLine) → listed xs z.template ≡ true → Has zs xs y → Has zs (xs ++ z ∷ []) y
same-firsts zs xs z y l h =
    ap (λ fs. find_in (map (template_of zs) fs) y.template) (firsts_push xs z true l ∙ append-nil (firsts [] xs)) ∙ h

more-firsts : (zs xs : List FieldLine) (z : FieldLine) → listed xs z.template ≡ false → map (template_of zs) (firsts [] (xs ++ z ∷ [])) ≡ map (template_of zs) (firsts [] xs) ++ template_of zs z ∷ []
more-firsts zs xs z l = ap (map (template_of zs)) (firsts_push xs z false l) ∙ map_push (template_of zs) (firsts [] xs) z

pub has-old : (zs xs : List FieldLine) (z y : FieldLine) → Has zs xs y → Has zs (xs ++ z ∷ []) y
has-old zs xs z y h =
    ⊎_elim
    (λ l. same-firsts zs xs z y l h)
    (λ l. ap (λ es. find_in es y.template) (more-firsts zs xs z l) ∙ find_stays (map (template_of zs) (firsts [] xs)) (template_of zs z) y.template _ h)
    (cases_Bool (listed xs z.template))

pub has_new : (zs xs : List FieldLine) (z : FieldLine) → may_follow xs z ≡ true → ((w : FieldLine) → last_of xs ≡ Some w → Has zs xs w) → Has zs (xs ++ z ∷ []) z
has_new zs xs z h last =
    ⊎_elim
    (λ l. same-firsts zs xs z z l (has_going zs xs z (last_of xs) last (and_parts (goes_on (last_of xs) z) (not (named xs z.template z.field)) (sym (cond-true _ _ _ l) ∙ h)).0))
    (λ l. ap (λ es. find_in es z.template) (more-firsts zs xs z l) ∙ find_new zs (firsts [] xs) z (unlisted_firsts [] xs z.template l))
    (cases_Bool (listed xs z.template))

some_same : (z w : FieldLine) → ◌≡◌ {A = Option FieldLine} (Some z) (Some w) → z ≡ w
some_same z w e = cc

pub has_last : (zs xs : List FieldLine) (z w : FieldLine) → Has zs (xs ++ z ∷ []) z → last_of (xs ++ z ∷ []) ≡ Some w → Has zs (xs ++ z ∷ []) w
has_last zs xs z w h e = let same : z ≡ w = some_same z w (sym (last_push xs z) ∙ e) in subst (Has zs (xs ++ z ∷ [])) same h

pub has-found : (ts : List Template) (xs : List FieldLine) (y : FieldLine) → listing ts ≡ templates_of xs → Has xs xs y → find ts y.template ≡ Some (layout_of xs y.template y.kind)
has-found ts xs y e h = find-listing ts y.template ∙ (ap (λ es. find_in es y.template) e ∙ h)
