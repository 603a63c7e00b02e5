-- the templates of a sheet that stand for statistics, as a loop collects them
use Rattle.std.proofs.Common.{◌≡◌, ℕ, ◌+◌, ◌<◌, ◌≤◌, Bool, true, false, cond, ◌&&◌, leb, List, [], ◌∷◌, ◌++◌, length, get_or, take, drop, set, sym, refl, ap, ◌∙◌, arith}
use Rattle.std.proofs.lemmas.List.{drop_more, drop_all, take_more_set, append_assoc, append-nil, length-append, length-take-le}
use Rattle.std.proofs.lemmas.Bool.{cond-true, cond-false, and_parts, leb-true}
use Rattle.layout.specs.declared.template.Template.{Template}
use Rattle.layout.specs.declared.kinds.Actions.{Actions}
use Rattle.layout.specs.Lawful.{is_stat, stat_count, lawful, different}
use Rattle.panel.specs.Opening.{stat_templates}

counted : (b : Bool) (t : ℕ) (xs : List ℕ) (n : ℕ) → length xs ≡ n → length (cond b (t ∷ xs) xs) ≡ cond b 1 0 + n
counted true t xs n e = omega arith
counted false t xs n e = omega arith

pub stat-length : (ts : List Template) → length (stat_templates ts) ≡ stat_count ts
stat-length [] = refl
stat-length (t ∷ ts) = counted (is_stat t.layout) t.id (stat_templates ts) (stat_count ts) (stat-length ts)

module _ (ts : List Template) (found : List ℕ) (n i : ℕ) (t : Template) (h : i < length ts) (q : t ≡ get_or ts i t)
    (inv : take n found ++ stat_templates (drop i ts) ≡ stat_templates ts) where
  next : stat_templates (drop i ts) ≡ cond (is_stat t.layout) (t.id ∷ stat_templates (drop (i + 1) ts)) (stat_templates (drop (i + 1) ts))
  next = ap stat_templates (drop_more ts i t h) ∙ ap (λ z. cond (is_stat z.layout) (z.id ∷ stat_templates (drop (i + 1) ts)) (stat_templates (drop (i + 1) ts))) (sym q)

  pub take-stat : is_stat t.layout ≡ true → n < length found → take (n + 1) (set found n t.id) ++ stat_templates (drop (i + 1) ts) ≡ stat_templates ts
  take-stat s l =
      ap (λ z. z ++ stat_templates (drop (i + 1) ts)) (take_more_set found n t.id l)
      ∙ (append_assoc (take n found) (t.id ∷ []) (stat_templates (drop (i + 1) ts))
      ∙ (ap (λ z. take n found ++ z) (sym (next ∙ cond-true _ _ _ s)) ∙ inv))

  pub pass_other : is_stat t.layout ≡ false → take n found ++ stat_templates (drop (i + 1) ts) ≡ stat_templates ts
  pass_other s = ap (λ z. take n found ++ z) (sym (next ∙ cond-false _ _ _ s)) ∙ inv

  -- there is room for one more
  pub stat-room : is_stat t.layout ≡ true → stat_count ts ≤ 16 → n ≤ length found → n < 16
  stat-room s l m =
      omega (arith, stat-length ts, ap length inv, length-append (take n found) (stat_templates (drop i ts)), length-take-le n found m, ap length (next ∙ cond-true _ _ _ s))

pub all_listed : (ts : List Template) (found : List ℕ) (n i : ℕ) → length ts ≤ i → take n found ++ stat_templates (drop i ts) ≡ stat_templates ts → take n found ≡ stat_templates ts
all_listed ts found n i h inv = sym (ap (λ z. take n found ++ stat_templates z) (drop_all i ts h) ∙ append-nil (take n found)) ∙ inv

pub few-stats : (a : Actions) (ts : List Template) → lawful a ts ≡ true → stat_count ts ≤ 16
few-stats a ts h = leb-true _ _ (and_parts (leb (length ts) 40) _ (and_parts (different a) _ (and_parts (different a && (leb (length ts) 40 && leb (stat_count ts) 16)) _ h).0).1).1
