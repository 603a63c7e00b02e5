-- A sheet with one template more.
use Rattle.std.proofs.Common.{◌≡◌, ◌+◌, ◌<◌, Bool, true, false, cond, not, ◌&&◌, eqb, leb, List, [], ◌∷◌, ◌++◌, length, Some, Option, sym, refl, ap, ◌∙◌, add_assoc, arith}
use Rattle.std.proofs.lemmas.List.{length_push}
use Rattle.std.proofs.lemmas.Bool.{false≢true, leb-true}
use Rattle.layout.specs.declared.kinds.Actions.{Actions}
use Rattle.layout.specs.declared.kinds.Layout.{Layout}
use Rattle.layout.specs.declared.template.Template.{Template}
use Rattle.layout.specs.Lawful.{lawful, lawful_each, lawful_layout, is_none, find, is_stat, stat_count, different}

pub none-cond : (e : Bool) (y : Layout) (o : Option Layout) → is_none (cond e (Some y) o) ≡ (not e && is_none o)
none-cond true y o = refl
none-cond false y o = refl

regroup : (p q E L e b c : Bool) → (p && (q && (E && (L && ((not e && b) && c))))) ≡ ((p && (q && E)) && (L && (b && (not e && c))))
regroup false q E L e b c = refl
regroup true false E L e b c = refl
regroup true true false L e b c = refl
regroup true true true false e b c = refl
regroup true true true true true true c = refl
regroup true true true true true false c = refl
regroup true true true true false b c = refl

each_push : (before ts : List Template) (t : Template) → lawful_each before (ts ++ t ∷ []) ≡ (lawful_each before ts && (lawful_layout t.layout && (is_none (find before t.id) && is_none (find ts t.id))))
each_push before [] t = refl
each_push before (x ∷ ts) t =
    let here = none-cond (eqb x.id t.id) x.layout (find before t.id) in
    let there = none-cond (eqb x.id t.id) x.layout (find ts t.id) in
    rw (each_push (x ∷ before) ts t, here, there)
    (regroup (lawful_layout x.layout) (is_none (find before x.id)) (lawful_each (x ∷ before) ts) (lawful_layout t.layout) (eqb x.id t.id) (is_none (find before t.id)) (is_none (find ts t.id)))

stat_push : (ts : List Template) (t : Template) → stat_count (ts ++ t ∷ []) ≡ stat_count ts + cond (is_stat t.layout) 1 0
stat_push [] t = omega arith
stat_push (x ∷ ts) t = ap (λ n. cond (is_stat x.layout) 1 0 + n) (stat_push ts t) ∙ sym (add_assoc _ _ _)

parts : (d l s e : Bool) → ((d && (l && s)) && e) ≡ true → (d ≡ true) × (l ≡ true) × (s ≡ true) × (e ≡ true)
parts true true true true h = (refl, refl, refl, refl)
parts true true true false h = absurd (false≢true h)
parts true true false e h = absurd (false≢true h)
parts true false s e h = absurd (false≢true h)
parts false l s e h = absurd (false≢true h)

joins : (d e L S E : Bool) → d ≡ true → e ≡ true → ((d && (L && S)) && (e && E)) ≡ ((L && S) && E)
joins d e L S E p q = rw (p, q)

-- whether a lawful sheet stays lawful with t
pub push_lawful : (a : Actions) (ts : List Template) (t : Template) → lawful a ts ≡ true → lawful a (ts ++ t ∷ []) ≡ ((leb (length ts + 1) 40 && leb (stat_count ts + cond (is_stat t.layout) 1 0) 16) && (lawful_layout t.layout && is_none (find ts t.id)))
push_lawful a ts t h =
    let all = parts (different a) (leb (length ts) 40) (leb (stat_count ts) 16) (lawful_each [] ts) h in
    ap (λ n. (different a && (leb n 40 && leb (stat_count (ts ++ t ∷ [])) 16)) && lawful_each [] (ts ++ t ∷ [])) (length_push ts t)
    ∙ (ap (λ n. (different a && (leb (length ts + 1) 40 && leb n 16)) && lawful_each [] (ts ++ t ∷ [])) (stat_push ts t)
    ∙ (ap (λ b. (different a && (leb (length ts + 1) 40 && leb (stat_count ts + cond (is_stat t.layout) 1 0) 16)) && b) (each_push [] ts t)
    ∙ joins (different a) (lawful_each [] ts) (leb (length ts + 1) 40) (leb (stat_count ts + cond (is_stat t.layout) 1 0) 16) (lawful_layout t.layout && is_none (find ts t.id)) all.0 all.3))

-- what a sheet with t last says of the templates before t
pub push_few : (a : Actions) (ts : List Template) (t : Template) → lawful a (ts ++ t ∷ []) ≡ true → length ts < 40
push_few a ts t h =
    let all = parts (different a) (leb (length (ts ++ t ∷ [])) 40) (leb (stat_count (ts ++ t ∷ [])) 16) (lawful_each [] (ts ++ t ∷ [])) h in
    omega (arith, length_push ts t, leb-true (length (ts ++ t ∷ [])) 40 all.1)
