-- The first line of each template, as lines are added.
use Rattle.std.proofs.Common.{◌≡◌, ℕ, ◌+◌, ◌<◌, Bool, true, false, cond, not, ◌&&◌, List, [], ◌∷◌, ◌++◌, length, get_or, take, drop, sym, refl, ap, ◌∙◌, arith}
use Rattle.std.proofs.lemmas.List.{drop_more, take_more, append_assoc, append-nil}
use Rattle.layout.specs.declared.kinds.Kind.TheVariants.{Stat}
use Rattle.sheet_text.specs.declared.types.FieldLine.{FieldLine}
use Rattle.sheet_text.specs.Names.{same_kind}
use Rattle.sheet_text.specs.Follows.{listed, firsts, stat_lines}

pub firsts_split : (before xs ys : List FieldLine) → firsts before (xs ++ ys) ≡ firsts before xs ++ firsts (before ++ xs) ys
firsts_split before [] ys = ap (λ b. firsts b ys) (sym (append-nil before))
firsts_split before (x ∷ xs) ys =
    let new = cond (listed before x.template) [] (x ∷ []) in
    ap (λ l. new ++ l) (firsts_split (before ++ x ∷ []) xs ys)
    ∙ (ap (λ b. new ++ (firsts (before ++ x ∷ []) xs ++ firsts b ys)) (append_assoc before (x ∷ []) xs) ∙ sym (append_assoc new _ _))

pub firsts_more : (xs : List FieldLine) (i : ℕ) (d : FieldLine) → i < length xs → firsts (take i xs) (drop i xs) ≡ cond (listed (take i xs) (get_or xs i d).template) [] (get_or xs i d ∷ []) ++ firsts (take (i + 1) xs) (drop (i + 1) xs)
firsts_more xs i d l =
    ap (firsts (take i xs)) (drop_more xs i d l)
    ∙ ap (λ b. cond (listed (take i xs) (get_or xs i d).template) [] (get_or xs i d ∷ []) ++ firsts b (drop (i + 1) xs)) (sym (take_more xs i d l))

pub length_new : (b : Bool) (x : FieldLine) (xs : List FieldLine) → length (cond b [] (x ∷ []) ++ xs) ≡ cond (not b) 1 0 + length xs
length_new true x xs = omega arith
length_new false x xs = omega arith

pub stats_new : (b : Bool) (x : FieldLine) (xs : List FieldLine) → stat_lines (cond b [] (x ∷ []) ++ xs) ≡ cond (same_kind x.kind Stat && not b) 1 0 + stat_lines xs
stats_new true x xs = elim (same_kind x.kind Stat) as (λ k. stat_lines xs ≡ cond (k && false) 1 0 + stat_lines xs) [ true ↦ omega arith | false ↦ omega arith ]
stats_new false x xs = elim (same_kind x.kind Stat) as (λ k. cond k 1 0 + stat_lines xs ≡ cond (k && true) 1 0 + stat_lines xs) [ true ↦ refl | false ↦ refl ]
