-- A sheet that is built template by template takes each of them.
use Rattle.std.proofs.Common.{◌≡◌, ℕ, ◌+◌, ◌<◌, ◌≤◌, Bool, true, false, cond, not, ◌&&◌, ◌||◌, eqb, leb, List, [], ◌∷◌, ◌++◌, map, length, get_or, take, drop, sym, refl, ap, ◌∙◌, arith}
use Rattle.std.proofs.lemmas.List.{length-map, length-append, map_push, append-nil, take-append-drop, drop_more, take_more}
use Rattle.std.proofs.lemmas.Bool.{or_parts, or_from, and_from, and_left, and_right, le-leb, cond_both}
use Rattle.layout.specs.declared.kinds.Actions.{Actions}
use Rattle.layout.specs.declared.kinds.Layout.{Layout}
use Rattle.layout.specs.declared.template.Template.{Template}
use Rattle.layout.proofs.Adds.{push_lawful, none-cond}
use Rattle.layout.specs.Lawful.{lawful, lawful_layout, is_stat, stat_count, is_none, find}
use Rattle.layout.specs.declared.kinds.Kind.TheVariants.{Stat}
use Rattle.sheet_text.specs.declared.types.FieldLine.{FieldLine}
use Rattle.sheet_text.specs.Names.{same_kind}
use Rattle.sheet_text.specs.Follows.{listed, firsts, stat_lines}
use Rattle.sheet_text.specs.Meaning.{layout_of, template_of, listing}
use Rattle.sheet_text.specs.Adding.{takes}
use Rattle.sheet_text.specs.Kept.{Kept}
use Rattle.sheet_text.proofs.Firsts.{firsts_split}
use Rattle.sheet_text.proofs.Layouts.{layout-lawful, layout-stat}

stats_in : List (ℕ × Layout) → ℕ
stats_in [] = 0
stats_in (e ∷ es) = cond (is_stat e.1) 1 0 + stats_in es

numbered : List (ℕ × Layout) → ℕ → Bool
numbered [] id = false
numbered (e ∷ es) id = eqb e.0 id || numbered es id

stats-listing : (ts : List Template) → stat_count ts ≡ stats_in (listing ts)
unfolding stats_in
stats-listing [] = refl
stats-listing (t ∷ ts) = ap (λ n. cond (is_stat t.layout) 1 0 + n) (stats-listing ts)

stats-map : (xs fs : List FieldLine) → stats_in (map (template_of xs) fs) ≡ stat_lines fs
unfolding stats_in
stats-map xs [] = refl
stats-map xs (f ∷ fs) =
    ap (λ b. cond b 1 0 + stats_in (map (template_of xs) fs)) (layout-stat xs f.template f.kind) ∙ ap (λ n. cond (same_kind f.kind Stat) 1 0 + n) (stats-map xs fs)

not_or : (a b : Bool) → not (a || b) ≡ (not a && not b)
not_or true b = refl
not_or false b = refl

find-listing : (ts : List Template) (id : ℕ) → is_none (find ts id) ≡ not (numbered (listing ts) id)
unfolding numbered
find-listing [] id = refl
find-listing (t ∷ ts) id =
    none-cond (eqb t.id id) t.layout (find ts id) ∙ (ap (λ b. not (eqb t.id id) && b) (find-listing ts id) ∙ sym (not_or (eqb t.id id) (numbered (listing ts) id)))

numbered-map : (xs fs : List FieldLine) (id : ℕ) → numbered (map (template_of xs) fs) id ≡ listed fs id
unfolding numbered
numbered-map xs [] id = refl
numbered-map xs (f ∷ fs) id = ap (λ b. eqb f.template id || b) (numbered-map xs fs id)

pub unlisted_firsts : (before ys : List FieldLine) (id : ℕ) → listed ys id ≡ false → listed (firsts before ys) id ≡ false
unlisted_firsts before [] id h = refl
unlisted_firsts before (y ∷ ys) id h =
    let p = or_parts (eqb y.template id) (listed ys id) h in
    let rest = unlisted_firsts (before ++ y ∷ []) ys id p.1 in
    cond_both (listed before y.template) [] (y ∷ []) (λ l. listed (l ++ firsts (before ++ y ∷ []) ys) id ≡ false) (λ _. rest) (λ _. or_from _ _ p.0 rest)

-- the sheet's templates, by the lines that they were made from
same_length : (xs fs : List FieldLine) (ts : List Template) → listing ts ≡ map (template_of xs) fs → length ts ≡ length fs
same_length xs fs ts e = sym (length-map ts (λ t. (t.id, t.layout))) ∙ (ap length e ∙ length-map fs (template_of xs))

same-stats : (xs fs : List FieldLine) (ts : List Template) → listing ts ≡ map (template_of xs) fs → stat_count ts ≡ stat_lines fs
same-stats xs fs ts e = stats-listing ts ∙ (ap stats_in e ∙ stats-map xs fs)

same-find : (xs fs : List FieldLine) (ts : List Template) (id : ℕ) → listing ts ≡ map (template_of xs) fs → is_none (find ts id) ≡ not (listed fs id)
same-find xs fs ts id e = find-listing ts id ∙ ap not (ap (λ l. numbered l id) e ∙ numbered-map xs fs id)

stats_split : (xs ys : List FieldLine) → stat_lines (xs ++ ys) ≡ stat_lines xs + stat_lines ys
stats_split [] ys = omega arith
stats_split (x ∷ xs) ys = omega (arith, stats_split xs ys)

-- the first lines of all templates, cut at a line that begins one
firsts_at : (xs : List FieldLine) (i : ℕ) (d : FieldLine) → i < length xs → listed (take i xs) (get_or xs i d).template ≡ false → firsts [] xs ≡ firsts [] (take i xs) ++ get_or xs i d ∷ firsts (take i xs ++ get_or xs i d ∷ []) (drop (i + 1) xs)
firsts_at xs i d l h =
    ap (firsts []) (sym (take-append-drop i xs))
    ∙ (firsts_split [] (take i xs) (drop i xs)
    ∙ (ap (λ ys. firsts [] (take i xs) ++ firsts (take i xs) ys) (drop_more xs i d l)
    ∙ ap (λ b. firsts [] (take i xs) ++ (cond b [] (get_or xs i d ∷ []) ++ firsts (take i xs ++ get_or xs i d ∷ []) (drop (i + 1) xs))) h))

pub build_takes : (xs : List FieldLine) (ts : List Template) (i : ℕ) (d : FieldLine) → Kept xs → i < length xs → listed (take i xs) (get_or xs i d).template ≡ false → listing ts ≡ map (template_of xs) (firsts [] (take i xs)) → takes ts (template_of xs (get_or xs i d)) ≡ true
build_takes xs ts i d k l h e =
    let x = get_or xs i d in
    let fs = firsts [] (take i xs) in
    let rest = firsts (take i xs ++ x ∷ []) (drop (i + 1) xs) in
    let cut = firsts_at xs i d l h in
    let count : length (firsts [] xs) ≡ length fs + length (x ∷ rest) = ap length cut ∙ length-append fs (x ∷ rest) in
    let stats : stat_lines (firsts [] xs) ≡ stat_lines fs + stat_lines (x ∷ rest) = ap stat_lines cut ∙ stats_split fs (x ∷ rest) in
    let few : length ts + 1 ≤ 40 = omega (arith, count, same_length xs fs ts e, k.few) in
    let kind : ◌≡◌ {A = ℕ} (cond (is_stat (layout_of xs x.template x.kind)) 1 0) (cond (same_kind x.kind Stat) 1 0) = ap (λ b. cond b 1 0) (layout-stat xs x.template x.kind) in
    let room : stat_count ts + cond (is_stat (layout_of xs x.template x.kind)) 1 0 ≤ 16 = omega (arith, stats, same-stats xs fs ts e, k.stats, kind) in
    let new : is_none (find ts x.template) ≡ true = same-find xs fs ts x.template e ∙ ap not (unlisted_firsts [] (take i xs) x.template h) in
    and_from _ _ (and_from _ _ (le-leb _ _ few) (le-leb _ _ room)) (and_from _ _ (layout-lawful xs x.template x.kind k.each) new)

-- the first lines of one line more
firsts_next : (xs : List FieldLine) (i : ℕ) (d : FieldLine) (b : Bool) → i < length xs → listed (take i xs) (get_or xs i d).template ≡ b → firsts [] (take (i + 1) xs) ≡ firsts [] (take i xs) ++ cond b [] (get_or xs i d ∷ [])
firsts_next xs i d b l h =
    ap (firsts []) (take_more xs i d l)
    ∙ (firsts_split [] (take i xs) (get_or xs i d ∷ [])
    ∙ ap (λ l. firsts [] (take i xs) ++ l) (append-nil (cond (listed (take i xs) (get_or xs i d).template) [] (get_or xs i d ∷ [])) ∙ ap (λ b. cond b [] (get_or xs i d ∷ [])) h))

pub build_more : (xs : List FieldLine) (l m : List (ℕ × Layout)) (i : ℕ) (d : FieldLine) → i < length xs → listed (take i xs) (get_or xs i d).template ≡ false → l ≡ map (template_of xs) (firsts [] (take i xs)) → m ≡ l ++ template_of xs (get_or xs i d) ∷ [] → m ≡ map (template_of xs) (firsts [] (take (i + 1) xs))
build_more xs l m i d lt h e f =
    f ∙ (ap (λ k. k ++ template_of xs (get_or xs i d) ∷ []) e ∙ (sym (map_push (template_of xs) (firsts [] (take i xs)) (get_or xs i d)) ∙ ap (map (template_of xs)) (sym (firsts_next xs i d false lt h))))

pub build_same : (xs : List FieldLine) (l : List (ℕ × Layout)) (i : ℕ) (d : FieldLine) → i < length xs → listed (take i xs) (get_or xs i d).template ≡ true → l ≡ map (template_of xs) (firsts [] (take i xs)) → l ≡ map (template_of xs) (firsts [] (take (i + 1) xs))
build_same xs l i d lt h e =
    e ∙ ap (map (template_of xs)) (sym (firsts_next xs i d true lt h ∙ append-nil (firsts [] (take i xs))))

-- what adding a template says of the listing
pub added : (a : Actions) (ts : List Template) (t : Template) (e : ℕ × Layout) (r : Bool) → lawful a ts ≡ true → t.id ≡ e.0 → t.layout ≡ e.1 → r ≡ lawful a (ts ++ t ∷ []) → r ≡ takes ts e
added a ts t e r h i l f =
    f ∙ (push_lawful a ts t h
    ∙ (ap (λ y. (leb (length ts + 1) 40 && leb (stat_count ts + cond (is_stat y) 1 0) 16) && (lawful_layout y && is_none (find ts t.id))) l
    ∙ ap (λ n. (leb (length ts + 1) 40 && leb (stat_count ts + cond (is_stat e.1) 1 0) 16) && (lawful_layout e.1 && is_none (find ts n))) i))

pub added-listing : (ts us : List Template) (t : Template) (e : ℕ × Layout) (r : Bool) → t.id ≡ e.0 → t.layout ≡ e.1 → us ≡ cond r (ts ++ t ∷ []) ts → listing us ≡ cond r (listing ts ++ e ∷ []) (listing ts)
added-listing ts us t e true i l f = ap listing f ∙ (map_push (λ t. (t.id, t.layout)) ts t ∙ (ap (λ n. listing ts ++ (n, t.layout) ∷ []) i ∙ ap (λ y. listing ts ++ (e.0, y) ∷ []) l))
added-listing ts us t e false i l f = ap listing f

pub refused : (ts : List Template) (e : ℕ × Layout) → lawful_layout e.1 ≡ false → false ≡ takes ts e
refused ts e h = sym (and_right (leb (length ts + 1) 40 && leb (stat_count ts + cond (is_stat e.1) 1 0) 16) _ (and_left (lawful_layout e.1) (is_none (find ts e.0)) h))
