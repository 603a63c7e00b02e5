-- The lines of an accepted text are what its sheet holds.
use Rattle.std.proofs.Common.{◌≡◌, ℕ, zero, suc, ◌+◌, ◌<◌, Bool, true, false, cond, not, ◌&&◌, ◌||◌, eqb, ◌⊎◌, List, [], ◌∷◌, ◌++◌, length, get_or, drop, IfOk, Some, None, Option, Result, sym, refl, ap, ◌∙◌, subst, inl, inr, ⊎_elim, arith}
use Rattle.std.proofs.lemmas.List.{append_assoc, append-nil, length_push, get_or_append_left, get_or_push}
use Rattle.std.proofs.lemmas.Bool.{false≢true, cases_lt, cases_Bool, and_parts, and_from, or_parts, eqb-true, eq-eqb, not-true, cond-true, cond-false}
use Rattle.layout.specs.declared.template.Template.{Template}
use Rattle.sheet_text.specs.declared.types.Field.{Field}
use Rattle.sheet_text.specs.declared.types.FieldLine.{FieldLine}
use Rattle.sheet_text.specs.declared.types.SheetFault.{SheetFault}
use Rattle.sheet_text.specs.Text.{Row}
use Rattle.sheet_text.specs.Names.{same_field, same_kind, fields_of}
use Rattle.sheet_text.specs.FieldLines.{field_line}
use Rattle.sheet_text.specs.Follows.{listed, named, missing, last_of, lacks, complete, goes_on, room_for, may_follow}
use Rattle.sheet_text.specs.Sheets.{right, first_wrong, follows, field_lines, with_line, answer}
use Rattle.sheet_text.specs.Meaning.{spot_of, listing, templates_of, templates_in}
use Rattle.sheet_text.specs.Laws.{Honoured}
use Rattle.sheet_text.proofs.Missing.{unlisted_unnamed, missing_no_more, last_push}
use Rattle.sheet_text.proofs.Keeps.{going}
use Rattle.sheet_text.proofs.Progress.{lines_more}
use Rattle.sheet_text.proofs.Finds.{Has, has-old, has_new, has_last, has-found}

-- a right row, and what is behind it
past : (b : Bool) (o : Option ℕ) (n : ℕ) → cond b o (Some n) ≡ None → (b ≡ true) × (o ≡ None)
past true o n h = (refl, h)
past false o n h = let z : ◌≡◌ {A = ℕ} 0 1 = cc in absurd (omega arith)

never : (n : ℕ) → ◌≡◌ {A = Option ℕ} (Some n) None → ⊥
never n h = let z : ◌≡◌ {A = ℕ} 0 1 = cc in omega arith

-- a line that may follow names a field that no line of its template named
fresh : (xs : List FieldLine) (x : FieldLine) → may_follow xs x ≡ true → named xs x.template x.field ≡ false
fresh xs x h =
    ⊎_elim
    (λ l. not-true _ (and_parts (goes_on (last_of xs) x) (not (named xs x.template x.field)) (sym (cond-true _ _ _ l) ∙ h)).1)
    (λ l. unlisted_unnamed xs x.template x.field l)
    (cases_Bool (listed xs x.template))

-- the spot of a field that is named once so far, and of one that is not
spot_push : (xs : List FieldLine) (x : FieldLine) → named xs x.template x.field ≡ false → spot_of (xs ++ x ∷ []) x.template x.field ≡ x.spot
spot_push [] x h = cond-true _ _ _ (and_from _ _ (eq-eqb x.template x.template refl) (eq-eqb _ _ refl))
spot_push (y ∷ xs) x h =
    let p = or_parts (eqb y.template x.template && same_field y.field x.field) (named xs x.template x.field) h in
    cond-false _ _ _ p.0 ∙ spot_push xs x p.1

spot_stays : (xs : List FieldLine) (x : FieldLine) (t : ℕ) (f : Field) → named xs t f ≡ true → spot_of (xs ++ x ∷ []) t f ≡ spot_of xs t f
spot_stays [] x t f h = absurd (false≢true h)
spot_stays (y ∷ xs) x t f h =
    ⊎_elim
    (λ e. cond-true _ _ _ e ∙ sym (cond-true _ _ _ e))
    (λ e. cond-false _ _ _ e ∙ (spot_stays xs x t f (sym (ap (λ b. b || named xs t f) e) ∙ h) ∙ sym (cond-false _ _ _ e)))
    (cases_Bool (eqb y.template t && same_field y.field f))

named_at : (xs : List FieldLine) (k : ℕ) (d : FieldLine) → k < length xs → named xs (get_or xs k d).template (get_or xs k d).field ≡ true
named_at [] k d l = absurd (omega arith)
named_at (x ∷ xs) zero d l = ap (λ b. b || named xs x.template x.field) (and_from _ _ (eq-eqb x.template x.template refl) (eq-eqb _ _ refl))
named_at (x ∷ xs) (suc k) d l =
    let y = get_or xs k d in
    elim (eqb x.template y.template && same_field x.field y.field) as (λ b. (b || named xs y.template y.field) ≡ true) [ true ↦ refl | false ↦ named_at xs k d (omega arith) ]

-- the template of a line is complete, or it is the last one
abbrev Ready : List FieldLine → FieldLine → Type 0
Ready xs y = (missing xs y.template (fields_of y.kind) ≡ 0) ⊎ (goes_on (last_of xs) y ≡ true)

record Steps (xs : List FieldLine) : Type 0 where
  has : (zs : List FieldLine) (k : ℕ) (d : FieldLine) → k < length xs → Has zs xs (get_or xs k d)
  last : (zs : List FieldLine) (w : FieldLine) → last_of xs ≡ Some w → Has zs xs w
  placed : (k : ℕ) (d : FieldLine) → k < length xs → spot_of xs (get_or xs k d).template (get_or xs k d).field ≡ (get_or xs k d).spot
  ready : (k : ℕ) (d : FieldLine) → k < length xs → Ready xs (get_or xs k d)

goes_same : (o : Option FieldLine) (z y : FieldLine) → goes_on o z ≡ true → goes_on o y ≡ true → goes_on (Some z) y ≡ true
goes_same None z y h g = absurd (false≢true h)
goes_same (Some w) z y h g =
    let p = and_parts (eqb w.template z.template) (same_kind w.kind z.kind) h in
    let q = and_parts (eqb w.template y.template) (same_kind w.kind y.kind) g in
    and_from _ _ (eq-eqb _ _ (sym (eqb-true _ _ p.0) ∙ eqb-true _ _ q.0)) (eq-eqb _ _ (sym (eqb-true _ _ p.1) ∙ eqb-true _ _ q.1))

last_goes : (xs : List FieldLine) (z y : FieldLine) → goes_on (Some z) y ≡ true → goes_on (last_of (xs ++ z ∷ [])) y ≡ true
last_goes xs z y h = ap (λ o. goes_on o y) (last_push xs z) ∙ h

completes : (xs : List FieldLine) (y : FieldLine) → complete xs ≡ true → Ready xs y → missing xs y.template (fields_of y.kind) ≡ 0
completes xs y c (inl m) = m
completes xs y c (inr g) = sym (going xs y (last_of xs) g) ∙ eqb-true (lacks xs (last_of xs)) 0 c

ready_old : (xs : List FieldLine) (z y : FieldLine) → may_follow xs z ≡ true → Ready xs y → Ready (xs ++ z ∷ []) y
ready_old xs z y h (inl m) = inl (let less = missing_no_more xs z y.template (fields_of y.kind) in omega arith)
ready_old xs z y h (inr g) =
    ⊎_elim
    (λ l. inr (last_goes xs z y (goes_same (last_of xs) z y (and_parts (goes_on (last_of xs) z) (not (named xs z.template z.field)) (sym (cond-true _ _ _ l) ∙ h)).0 g)))
    (λ l.
    let c = (and_parts (complete xs) (room_for xs z.kind) (sym (cond-false _ _ _ l) ∙ h)).0 in
    let none = completes xs y c (inr g) in
    let less = missing_no_more xs z y.template (fields_of y.kind) in
    inl (omega arith))
    (cases_Bool (listed xs z.template))

steps_push : (xs : List FieldLine) (z : FieldLine) → Steps xs → may_follow xs z ≡ true → Steps (xs ++ z ∷ [])
steps_push xs z s h =
    let long = length_push xs z in
    let new : (zs : List FieldLine) → Has zs (xs ++ z ∷ []) z = λ zs. has_new zs xs z h (s.last zs) in
    record {
      has = (λ zs k d l.
          ⊎_elim
          (λ lt. subst (Has zs (xs ++ z ∷ [])) (sym (get_or_append_left xs (z ∷ []) d k lt)) (has-old zs xs z (get_or xs k d) (s.has zs k d lt)))
          (λ ge. let e : length xs ≡ k = omega arith in subst (Has zs (xs ++ z ∷ [])) (sym (get_or_push xs z d k e)) (new zs))
          (cases_lt k (length xs)));
      last = (λ zs w e. has_last zs xs z w (new zs) e);
      placed = (λ k d l.
          ⊎_elim
          (λ lt.
          let y = get_or xs k d in
          subst (λ v. spot_of (xs ++ z ∷ []) v.template v.field ≡ v.spot) (sym (get_or_append_left xs (z ∷ []) d k lt)) (spot_stays xs z y.template y.field (named_at xs k d lt) ∙ s.placed k d lt))
          (λ ge.
          let e : length xs ≡ k = omega arith in
          subst (λ v. spot_of (xs ++ z ∷ []) v.template v.field ≡ v.spot) (sym (get_or_push xs z d k e)) (spot_push xs z (fresh xs z h)))
          (cases_lt k (length xs)));
      ready = (λ k d l.
          ⊎_elim
          (λ lt. subst (Ready (xs ++ z ∷ [])) (sym (get_or_append_left xs (z ∷ []) d k lt)) (ready_old xs z (get_or xs k d) h (s.ready k d lt)))
          (λ ge.
          let e : length xs ≡ k = omega arith in
          subst (Ready (xs ++ z ∷ [])) (sym (get_or_push xs z d k e)) (inr (last_goes xs z z (and_from _ _ (eq-eqb z.template z.template refl) (eq-eqb _ _ refl)))))
          (cases_lt k (length xs)));
    }

ends : (ts : List Template) (xs : List FieldLine) → listing ts ≡ templates_of xs → Steps xs → complete xs ≡ true → Honoured ts xs
ends ts xs f s c = record { found = (λ k d l. has-found ts xs (get_or xs k d) f (s.has xs k d l)); placed = s.placed; whole = (λ k d l. completes xs (get_or xs k d) c (s.ready k d l)) }

empty-last : (w : FieldLine) → ◌≡◌ {A = Option FieldLine} None (Some w) → ⊥
empty-last w e = let z : ◌≡◌ {A = ℕ} 0 1 = cc in omega arith

no_lines : Steps []
no_lines = record { has = (λ zs k d l. absurd (omega arith)); last = (λ zs w e. absurd (empty-last w e)); placed = (λ k d l. absurd (omega arith)); ready = (λ k d l. absurd (omega arith)) }

steps_line : (xs : List FieldLine) (o : Option FieldLine) → Steps xs → follows xs o ≡ true → Steps (xs ++ with_line o [])
steps_line xs None s h = absurd (false≢true h)
steps_line xs (Some x) s h = steps_push xs x s h

abbrev Held : List Template → List Row → Type 0
Held ts rs = listing ts ≡ templates_of (field_lines rs) → Honoured ts (field_lines rs)

onward : (ts : List Template) (a b c d : Row) (passed rs : List Row) → Steps (field_lines passed) → first_wrong (a ∷ b ∷ c ∷ d ∷ passed) rs ≡ None → Held ts (passed ++ rs)
onward ts a b c d passed [] s h =
    subst (Held ts) (sym (append-nil passed)) (λ f. ends ts (field_lines passed) f s (past (complete (field_lines passed)) None (length (a ∷ b ∷ c ∷ d ∷ passed) + 1) h).0)
onward ts a b c d passed (None ∷ rs) s h = absurd (never _ h)
onward ts a b c d passed (Some l ∷ rs) s h =
    let p = past (follows (field_lines passed) (field_line l)) (first_wrong (a ∷ b ∷ c ∷ d ∷ passed ++ Some l ∷ []) rs) (length (a ∷ b ∷ c ∷ d ∷ passed) + 1) h in
    let more = subst Steps (sym (lines_more passed (Some l))) (steps_line (field_lines passed) (field_line l) s p.0) in
    subst (Held ts) (append_assoc passed (Some l ∷ []) rs) (onward ts a b c d (passed ++ Some l ∷ []) rs more p.1)

accepted : (ts : List Template) (rs : List Row) → first_wrong [] rs ≡ None → Held ts (drop 4 rs)
accepted ts [] h = absurd (never _ h)
accepted ts (a ∷ []) h = absurd (never _ (past (right [] a) (first_wrong (a ∷ []) []) 1 h).1)
accepted ts (a ∷ b ∷ []) h =
    let p = (past (right [] a) (first_wrong (a ∷ []) (b ∷ [])) 1 h).1 in
    absurd (never _ (past (right (a ∷ []) b) (first_wrong (a ∷ b ∷ []) []) 2 p).1)
accepted ts (a ∷ b ∷ c ∷ []) h =
    let p = (past (right [] a) (first_wrong (a ∷ []) (b ∷ c ∷ [])) 1 h).1 in
    let q = (past (right (a ∷ []) b) (first_wrong (a ∷ b ∷ []) (c ∷ [])) 2 p).1 in
    absurd (never _ (past (right (a ∷ b ∷ []) c) (first_wrong (a ∷ b ∷ c ∷ []) []) 3 q).1)
accepted ts (a ∷ b ∷ c ∷ d ∷ rs) h =
    let p = (past (right [] a) (first_wrong (a ∷ []) (b ∷ c ∷ d ∷ rs)) 1 h).1 in
    let q = (past (right (a ∷ []) b) (first_wrong (a ∷ b ∷ []) (c ∷ d ∷ rs)) 2 p).1 in
    let r = (past (right (a ∷ b ∷ []) c) (first_wrong (a ∷ b ∷ c ∷ []) (d ∷ rs)) 3 q).1 in
    onward ts a b c d [] rs no_lines (past (right (a ∷ b ∷ c ∷ []) d) (first_wrong (a ∷ b ∷ c ∷ d ∷ []) rs) 4 r).1

abbrev Filled : List Template → List Row → Result (Unit {0}) SheetFault → Type 0
Filled ts rs r = IfOk r (λ _. listing ts ≡ templates_in rs) → IfOk r (λ _. Honoured ts (field_lines (drop 4 rs)))

held : (ts : List Template) (rs : List Row) (o : Option ℕ) → first_wrong [] rs ≡ o → Filled ts rs (answer o)
held ts rs None h f = accepted ts rs h f
held ts rs (Some n) h f = tt

pub honours : (ts : List Template) (rs : List Row) (r : Result (Unit {0}) SheetFault) → r ≡ answer (first_wrong [] rs) → Filled ts rs r
honours ts rs r e = subst (Filled ts rs) (sym e) (held ts rs (first_wrong [] rs) refl)
