-- A place to start a search from still serves when it is lowered.
use Rattle.std.proofs.Common.{◌≡◌, ℕ, ◌%◌, ◌<◌, ◌≤◌, min, List, [], ◌∷◌, ◌++◌, length, get_or, set, sym, ◌∙◌, subst, ⊎_elim, arith}
use Rattle.std.proofs.lemmas.List.{get_or-set_same, get_or-set_other, get_or_append_left, get_or_push, length_push, length-map, map_push}
use Rattle.std.proofs.lemmas.Bool.{cases_eq, cases_lt}
use Rattle.layout.specs.declared.template.Template.{Template}
use Rattle.layout.specs.Hint.{Near, ids_of}

abbrev pub lowered : List ℕ → ℕ → ℕ → List ℕ
lowered first h n = set first h (min (get_or first h 0) n)

no_higher : (first : List ℕ) (h n j : ℕ) → h < length first → get_or (lowered first h n) j 0 ≤ get_or first j 0
no_higher first h n j l =
    ⊎_elim
    (λ e. subst (λ i. get_or (lowered first h n) i 0 ≤ get_or first i 0) (sym e) (omega (arith, get_or-set_same first h (min (get_or first h 0) n) 0 l)))
    (λ e. omega (arith, get_or-set_other first h j (min (get_or first h 0) n) 0 e))
    (cases_eq j h)

near-more : (ids first : List ℕ) (id : ℕ) → id % 256 < length first → Near ids first → Near (ids ++ id ∷ []) (lowered first (id % 256) (length ids))
near-more ids first id l near k b =
    let long = length_push ids id in
    let now-first = lowered first (id % 256) (length ids) in
    ⊎_elim
    (λ h. subst (λ x. get_or now-first (x % 256) 0 ≤ k) (sym (get_or_append_left ids (id ∷ []) 0 k h)) (omega (arith, near k h, no_higher first (id % 256) (length ids) (get_or ids k 0 % 256) l)))
    (λ h. let e : length ids ≡ k = omega arith in subst (λ x. get_or now-first (x % 256) 0 ≤ k) (sym (get_or_push ids id 0 k e)) (omega (arith, get_or-set_same first (id % 256) (min (get_or first (id % 256) 0) (length ids)) 0 l)))
    (cases_lt k (length ids))

pub near_push : (ts us : List Template) (t : Template) (first first' : List ℕ) (h n : ℕ) → length first ≡ 256 → h < 256 → Near (ids_of ts) first → h ≡ t.id % 256 → n ≡ length ts → first' ≡ lowered first h n → us ≡ ts ++ t ∷ [] → Near (ids_of us) first'
near_push ts us t first first' h n long l near e f g i =
    let l' : t.id % 256 < length first = omega arith in
    let f' : n ≡ length (ids_of ts) = f ∙ sym (length-map ts (λ t. t.id)) in
    let w : first' ≡ lowered first (t.id % 256) (length (ids_of ts)) = cc in
    subst (λ x. Near (ids_of x) first') (sym i) (subst (λ x. Near x first') (sym (map_push (λ t. t.id) ts t)) (subst (λ x. Near (ids_of ts ++ t.id ∷ []) x) (sym w) (near-more (ids_of ts) first t.id l' near)))
