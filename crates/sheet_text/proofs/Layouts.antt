-- The layout that sound lines give is lawful.
use Rattle.std.proofs.Common.{◌≡◌, ℕ, true, cond, ◌&&◌, eqb, List, [], ◌∷◌, sym, refl, ap, ◌∙◌, subst}
use Rattle.std.proofs.lemmas.Bool.{and_parts, and_from, eqb-true, cond_both}
use Rattle.layout.specs.Lawful.{lawful_layout, is_stat}
use Rattle.layout.specs.declared.kinds.Kind.{Kind}
use Rattle.layout.specs.declared.kinds.Kind.TheVariants.{Order, Delete, Mass, Empty, Stat, Header, Entries}
use Rattle.sheet_text.specs.declared.types.Field.{Field}
use Rattle.sheet_text.specs.declared.types.Field.TheVariants.{Security, Action, Side, Position, Price, Size, Oid, Firm, Value, Last, Bids, Offers, Stats, Group}
use Rattle.sheet_text.specs.declared.types.FieldLine.{FieldLine}
use Rattle.sheet_text.specs.Names.{field_number, same_field, same_kind, among, fields_of}
use Rattle.sheet_text.specs.FieldLines.{allowed, sound}
use Rattle.sheet_text.specs.Kept.{all_sound}
use Rattle.sheet_text.specs.Meaning.{spare, spot_of, layout_of}

field_by : ℕ → Field
field_by n =
    cond (eqb n 0) Security (cond (eqb n 1) Action (cond (eqb n 2) Side (cond (eqb n 3) Position (cond (eqb n 4) Price (cond (eqb n 5) Size (cond (eqb n 6) Oid
    (cond (eqb n 7) Firm (cond (eqb n 8) Value (cond (eqb n 9) Last (cond (eqb n 10) Bids (cond (eqb n 11) Offers (cond (eqb n 12) Stats Group))))))))))))

field_back : (f : Field) → field_by (field_number f) ≡ f
unfolding field_by
field_back Security = refl
field_back Action = refl
field_back Side = refl
field_back Position = refl
field_back Price = refl
field_back Size = refl
field_back Oid = refl
field_back Firm = refl
field_back Value = refl
field_back Last = refl
field_back Bids = refl
field_back Offers = refl
field_back Stats = refl
field_back Group = refl

same_field_lem : (a b : Field) → field_number a ≡ field_number b → a ≡ b
same_field_lem a b e = sym (field_back a) ∙ (ap field_by e ∙ field_back b)

spare-allowed : (f : Field) → allowed f (spare f) ≡ true
spare-allowed Security = refl
spare-allowed Action = refl
spare-allowed Side = refl
spare-allowed Position = refl
spare-allowed Price = refl
spare-allowed Size = refl
spare-allowed Oid = refl
spare-allowed Firm = refl
spare-allowed Value = refl
spare-allowed Last = refl
spare-allowed Bids = refl
spare-allowed Offers = refl
spare-allowed Stats = refl
spare-allowed Group = refl

spot_allowed : (xs : List FieldLine) (t : ℕ) (f : Field) → all_sound xs ≡ true → allowed f (spot_of xs t f) ≡ true
spot_allowed [] t f h = spare-allowed f
spot_allowed (x ∷ xs) t f h =
    let p = and_parts (sound x) (all_sound xs) h in
    let here = (and_parts (among (fields_of x.kind) x.field) (allowed x.field x.spot) p.0).1 in
    cond_both (eqb x.template t && same_field x.field f) x.spot (spot_of xs t f) (λ s. allowed f s ≡ true)
    (λ e. subst (λ g. allowed g x.spot ≡ true) (same_field_lem x.field f (eqb-true _ _ (and_parts (eqb x.template t) (same_field x.field f) e).1)) here)
    (λ e. spot_allowed xs t f p.1)

pub layout-lawful : (xs : List FieldLine) (t : ℕ) (k : Kind) → all_sound xs ≡ true → lawful_layout (layout_of xs t k) ≡ true
layout-lawful xs t Order h =
    let ok : (f : Field) → allowed f (spot_of xs t f) ≡ true = λ f. spot_allowed xs t f h in
    and_from _ _ (and_from _ _ (and_from _ _ (ok Security) (ok Action)) (and_from _ _ (ok Side) (ok Position))) (and_from _ _ (and_from _ _ (ok Price) (ok Size)) (and_from _ _ (ok Oid) (ok Firm)))
layout-lawful xs t Delete h =
    let ok : (f : Field) → allowed f (spot_of xs t f) ≡ true = λ f. spot_allowed xs t f h in
    and_from _ _ (ok Security) (and_from _ _ (ok Side) (ok Position))
layout-lawful xs t Mass h =
    let ok : (f : Field) → allowed f (spot_of xs t f) ≡ true = λ f. spot_allowed xs t f h in
    and_from _ _ (and_from _ _ (ok Security) (ok Action)) (and_from _ _ (ok Side) (ok Position))
layout-lawful xs t Empty h = spot_allowed xs t Security h
layout-lawful xs t Stat h = and_from _ _ (spot_allowed xs t Security h) (spot_allowed xs t Value h)
layout-lawful xs t Header h =
    let ok : (f : Field) → allowed f (spot_of xs t f) ≡ true = λ f. spot_allowed xs t f h in
    and_from _ _ (and_from _ _ (ok Security) (ok Last)) (and_from _ _ (ok Bids) (and_from _ _ (ok Offers) (ok Stats)))
layout-lawful xs t Entries h =
    let ok : (f : Field) → allowed f (spot_of xs t f) ≡ true = λ f. spot_allowed xs t f h in
    let count = (and_parts _ _ (ok Group)).1 in
    and_from _ _ (and_from _ _ (and_from _ _ (ok Security) count) (and_from _ _ (ok Side) (ok Position))) (and_from _ _ (and_from _ _ (ok Price) (ok Size)) (and_from _ _ (ok Oid) (ok Firm)))

pub layout-stat : (xs : List FieldLine) (t : ℕ) (k : Kind) → is_stat (layout_of xs t k) ≡ same_kind k Stat
layout-stat xs t Order = refl
layout-stat xs t Delete = refl
layout-stat xs t Mass = refl
layout-stat xs t Empty = refl
layout-stat xs t Stat = refl
layout-stat xs t Header = refl
layout-stat xs t Entries = refl
