-- A search for a template from a place on.
use Rattle.std.proofs.Common.{◌≡◌, ℕ, zero, suc, ◌%◌, ◌<◌, Bool, true, false, cond, eqb, List, [], ◌∷◌, length, get_or, drop, Option, Some, None, MatchOption, ◌⊎◌, ⊎_elim, sym, refl, ap, ◌∙◌, subst, arith}
use Rattle.std.specs.List.{find as first_of, slice_range}
use Rattle.std.specs.Option.{option_map}
use Rattle.std.proofs.lemmas.List.{at_drop_all, take_rest}
use Rattle.std.proofs.lemmas.Bool.{ne_eqb, cond-false}
use denote.Ref.{Bor}
use Rattle.layout.specs.declared.kinds.Layout.{Layout}
use Rattle.layout.specs.declared.template.Template.{Template}
use Rattle.layout.specs.Hint.{Near, ids_of}
use Rattle.layout.specs.Lawful.{find}

found : (b : Bool) (t : Template) (o : Option Template) (u : Option Layout) → option_map (λ (x : Template). x.layout) o ≡ u → option_map (λ (x : Template). x.layout) (cond b (Some t) o) ≡ cond b (Some t.layout) u
found true t o u e = refl
found false t o u e = e

first_of-find : (ts : List Template) (id : ℕ) → option_map (λ (t : Template). t.layout) (first_of (λ (t : Template). eqb t.id id) ts) ≡ find ts id
first_of-find [] id = refl
first_of-find (t ∷ ts) id = found (eqb t.id id) t (first_of (λ (x : Template). eqb x.id id) ts) (find ts id) (first_of-find ts id)

-- what the first template of those behind a place tells
pub find_by : (ts us : List Template) (id : ℕ) (r : Option (Bor Template)) → option_map (λ (t : Bor Template). t.now) r ≡ first_of (λ (t : Template). eqb t.id id) us → find us id ≡ find ts id → MatchOption r (find ts id ≡ None) (λ t. find ts id ≡ Some t.now.layout)
find_by ts us id None h e = sym e ∙ (sym (first_of-find us id) ∙ ap (option_map (λ (t : Template). t.layout)) (sym h))
find_by ts us id (Some t) h e = sym e ∙ (sym (first_of-find us id) ∙ ap (option_map (λ (x : Template). x.layout)) (sym h))

find_skip : (ts : List Template) (i id : ℕ) → ((k : ℕ) → k < i → k < length (ids_of ts) → get_or (ids_of ts) k 0 ≡ id → ⊥) → find (drop i ts) id ≡ find ts id
find_skip ts zero id h = refl
find_skip [] (suc i) id h = refl
find_skip (x ∷ ts) (suc i) id h =
    find_skip ts i id (λ k l m e. h (suc k) (omega arith) (omega arith) e) ∙ sym (cond-false _ _ _ (ne_eqb _ _ (λ e. h 0 (omega arith) (omega arith) e)))

-- a search may start at the hint
pub find-start : (ts : List Template) (first : List ℕ) (id h i : ℕ) → Near (ids_of ts) first → h ≡ id % 256 → i ≡ get_or first h 0 → find (drop i ts) id ≡ find ts id
find-start ts first id h i near f g =
    find_skip ts i id (λ k l m s. let a = near k m in let b = ap (λ x. get_or first (x % 256) 0) s in let d = ap (λ x. get_or first x 0) f in omega arith)

-- a hint behind the last template
pub find-behind : (ts us : List Template) (i id : ℕ) → us ≡ ts → (length us < i) ⊎ (length us < length us) → find (drop i ts) id ≡ find ts id → find ts id ≡ None
find-behind ts us i id s l e =
    let m : length ts < i = ⊎_elim (λ h. subst (λ x. length x < i) s h) (λ h. absurd (omega arith)) l in
    sym e ∙ at_drop_all (λ x. find x id) ts i (omega arith)

-- the templates from a hint on
pub find-rest : (ts us rest : List Template) (i id : ℕ) → us ≡ ts → rest ≡ slice_range us i (length us) → find (drop i ts) id ≡ find ts id → find rest id ≡ find ts id
find-rest ts us rest i id s r e = ap (λ x. find x id) r ∙ (ap (λ x. find x id) (take_rest us i) ∙ (ap (λ x. find (drop i x) id) s ∙ e))
