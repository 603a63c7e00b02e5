-- A line that may follow keeps what the lines have in common.
use Rattle.std.proofs.Common.{◌≡◌, ℕ, ◌+◌, ◌<◌, ◌≤◌, Bool, true, false, cond, not, ◌&&◌, ◌||◌, eqb, ltb, List, [], ◌∷◌, ◌++◌, length, Some, None, Option, sym, ap, ◌∙◌, ⊎_elim, arith}
use Rattle.std.proofs.lemmas.List.{append-nil, length_push}
use Rattle.std.proofs.lemmas.Bool.{false≢true, cases_Bool, eqb-true, ltb-true, and_parts, not-true, cond-true, cond-false}
use Rattle.layout.specs.declared.kinds.Kind.TheVariants.{Stat}
use Rattle.sheet_text.specs.declared.types.FieldLine.{FieldLine}
use Rattle.sheet_text.specs.Names.{same_kind, among, fields_of}
use Rattle.sheet_text.specs.FieldLines.{sound, allowed}
use Rattle.sheet_text.specs.Follows.{listed, named, missing, firsts, stat_lines, last_of, lacks, complete, goes_on, room_for, may_follow}
use Rattle.sheet_text.specs.Kept.{Kept, all_sound}
use Rattle.sheet_text.proofs.Firsts.{firsts_split}
use Rattle.sheet_text.proofs.Missing.{unlisted_unnamed, missing-less, missing-most, eight_fields, same_kind_lem, last_push}

sound_push : (xs : List FieldLine) (x : FieldLine) → all_sound xs ≡ true → sound x ≡ true → all_sound (xs ++ x ∷ []) ≡ true
sound_push [] x h s = ap (λ b. b && true) s
sound_push (y ∷ xs) x h s =
    let p = and_parts (sound y) (all_sound xs) h in
    ap (λ b. b && all_sound (xs ++ x ∷ [])) p.0 ∙ sound_push xs x p.1 s

pub firsts_push : (xs : List FieldLine) (x : FieldLine) (b : Bool) → listed xs x.template ≡ b → firsts [] (xs ++ x ∷ []) ≡ firsts [] xs ++ cond b [] (x ∷ [])
firsts_push xs x b e =
    firsts_split [] xs (x ∷ []) ∙ ap (λ l. firsts [] xs ++ l) (append-nil (cond (listed xs x.template) [] (x ∷ [])) ∙ ap (λ b. cond b [] (x ∷ [])) e)

stats-append : (xs : List FieldLine) (x : FieldLine) → stat_lines (xs ++ x ∷ []) ≡ stat_lines xs + cond (same_kind x.kind Stat) 1 0
stats-append [] x = omega arith
stats-append (y ∷ xs) x = omega (arith, stats-append xs x)

pub going : (xs : List FieldLine) (x : FieldLine) (o : Option FieldLine) → goes_on o x ≡ true → lacks xs o ≡ missing xs x.template (fields_of x.kind)
going xs x None h = absurd (false≢true h)
going xs x (Some y) h =
    let p = and_parts (eqb y.template x.template) (same_kind y.kind x.kind) h in
    ap (λ t. missing xs t (fields_of y.kind)) (eqb-true _ _ p.0) ∙ ap (λ k. missing xs x.template (fields_of k)) (same_kind_lem _ _ (eqb-true _ _ p.1))

lacking : (xs : List FieldLine) (x : FieldLine) → lacks (xs ++ x ∷ []) (last_of (xs ++ x ∷ [])) ≡ missing (xs ++ x ∷ []) x.template (fields_of x.kind)
lacking xs x = ap (lacks (xs ++ x ∷ [])) (last_push xs x)

goes_on_lem : (xs : List FieldLine) (x : FieldLine) → Kept xs → sound x ≡ true → listed xs x.template ≡ true → (goes_on (last_of xs) x && not (named xs x.template x.field)) ≡ true → Kept (xs ++ x ∷ []) × (length xs < 320)
goes_on_lem xs x k s l h =
    let p = and_parts (goes_on (last_of xs) x) (not (named xs x.template x.field)) h in
    let same = going xs x (last_of xs) p.0 in
    let less = missing-less xs x (fields_of x.kind) (and_parts (among (fields_of x.kind) x.field) (allowed x.field x.spot) s).0 (not-true _ p.1) in
    let fs : firsts [] (xs ++ x ∷ []) ≡ firsts [] xs = firsts_push xs x true l ∙ append-nil (firsts [] xs) in
    let count = ap length fs in
    let new = lacking xs x in
    let one = length_push xs x in
    let few = k.few in
    let short = k.short in
    (record { each = sound_push xs x k.each s; few = omega arith; stats = omega (arith, ap stat_lines fs, k.stats); short = omega arith }, omega arith)

within : (s : Bool) (n : ℕ) → n ≤ 16 → (not s || ltb n 16) ≡ true → n + cond s 1 0 ≤ 16
within true n l h = omega (arith, ltb-true n 16 h)
within false n l h = omega arith

begins : (xs : List FieldLine) (x : FieldLine) → Kept xs → sound x ≡ true → listed xs x.template ≡ false → (complete xs && room_for xs x.kind) ≡ true → Kept (xs ++ x ∷ []) × (length xs < 320)
begins xs x k s l h =
    let p = and_parts (complete xs) (room_for xs x.kind) h in
    let r = and_parts (ltb (length (firsts [] xs)) 40) (not (same_kind x.kind Stat) || ltb (stat_lines (firsts [] xs)) 16) p.1 in
    let room = ltb-true (length (firsts [] xs)) 40 r.0 in
    let less = missing-less xs x (fields_of x.kind) (and_parts (among (fields_of x.kind) x.field) (allowed x.field x.spot) s).0 (unlisted_unnamed xs x.template x.field l) in
    let most = missing-most xs x.template (fields_of x.kind) in
    let eight = eight_fields x.kind in
    let fs : firsts [] (xs ++ x ∷ []) ≡ firsts [] xs ++ x ∷ [] = firsts_push xs x false l in
    let count : length (firsts [] (xs ++ x ∷ [])) ≡ length (firsts [] xs) + 1 = ap length fs ∙ length_push (firsts [] xs) x in
    let stats : stat_lines (firsts [] (xs ++ x ∷ [])) ≡ stat_lines (firsts [] xs) + cond (same_kind x.kind Stat) 1 0 = ap stat_lines fs ∙ stats-append (firsts [] xs) x in
    let new = lacking xs x in
    let one = length_push xs x in
    let short = k.short in
    (record { each = sound_push xs x k.each s; few = omega arith; stats = omega (arith, stats, within (same_kind x.kind Stat) (stat_lines (firsts [] xs)) k.stats r.1); short = omega arith }, omega arith)

pub keeps : (xs : List FieldLine) (x : FieldLine) → Kept xs → sound x ≡ true → may_follow xs x ≡ true → Kept (xs ++ x ∷ []) × (length xs < 320)
keeps xs x k s h =
    ⊎_elim
    (λ l. goes_on_lem xs x k s l (sym (cond-true _ _ _ l) ∙ h))
    (λ l. begins xs x k s l (sym (cond-false _ _ _ l) ∙ h))
    (cases_Bool (listed xs x.template))
