-- The first four rows of a text, one by one.
use Rattle.std.proofs.Common.{◌≡◌, ℕ, false, List, [], ◌∷◌, ◌++◌, is_some, Some, None, codes, refl, ap, ◌∙◌}
use Rattle.std.proofs.lemmas.Bool.{cond-true, cond-false}
use Rattle.layout.specs.declared.kinds.Actions.{Actions}
use Rattle.sheet_text.specs.Text.{Row}
use Rattle.sheet_text.specs.Sheets.{actions_of, first_wrong}
use Rattle.sheet_text.specs.Opening.{starts_with, actions_first, opening_rows}

pub wrong_first : (rs : List Row) → starts_with (codes "new change topcut bottomcut") rs ≡ false → first_wrong [] rs ≡ Some 1
wrong_first [] h = refl
wrong_first (None ∷ rs) h = refl
wrong_first (Some line ∷ rs) h = cond-false _ _ _ h

second : (a : Row) (rs : List Row) → actions_first rs ≡ None → first_wrong (a ∷ []) rs ≡ Some 2
second a [] h = refl
second a (None ∷ rs) h = refl
second a (Some line ∷ rs) h = cond-false _ _ _ (ap is_some h)

pub wrong_second : (rs ss : List Row) → rs ≡ Some (codes "new change topcut bottomcut") ∷ ss → actions_first ss ≡ None → first_wrong [] rs ≡ Some 2
wrong_second rs ss e h = ap (first_wrong []) e ∙ second (Some (codes "new change topcut bottomcut")) ss h

third : (a b : Row) (rs : List Row) → starts_with [] rs ≡ false → first_wrong (a ∷ b ∷ []) rs ≡ Some 3
third a b [] h = refl
third a b (None ∷ rs) h = refl
third a b (Some line ∷ rs) h = cond-false _ _ _ h

-- past the first two rows
twoth : (line : List ℕ) (x : Actions) (rs : List Row) → actions_of line ≡ Some x → first_wrong [] (Some (codes "new change topcut bottomcut") ∷ Some line ∷ rs) ≡ first_wrong (Some (codes "new change topcut bottomcut") ∷ Some line ∷ []) rs
twoth line x rs h = cond-true _ _ _ (ap is_some h)

pub wrong_third : (rs ss us : List Row) (line : List ℕ) (x : Actions) → rs ≡ Some (codes "new change topcut bottomcut") ∷ ss → ss ≡ Some line ∷ us → actions_of line ≡ Some x → starts_with [] us ≡ false → first_wrong [] rs ≡ Some 3
wrong_third rs ss us line x e f g h =
    ap (first_wrong []) (e ∙ ap (λ l. Some (codes "new change topcut bottomcut") ∷ l) f) ∙ (twoth line x us g ∙ third _ _ us h)

fourth : (a b c : Row) (rs : List Row) → starts_with (codes "template kind field offset width") rs ≡ false → first_wrong (a ∷ b ∷ c ∷ []) rs ≡ Some 4
fourth a b c [] h = refl
fourth a b c (None ∷ rs) h = refl
fourth a b c (Some line ∷ rs) h = cond-false _ _ _ h

pub wrong_fourth : (rs ss us vs : List Row) (line : List ℕ) (x : Actions) → rs ≡ Some (codes "new change topcut bottomcut") ∷ ss → ss ≡ Some line ∷ us → actions_of line ≡ Some x → us ≡ Some [] ∷ vs → starts_with (codes "template kind field offset width") vs ≡ false → first_wrong [] rs ≡ Some 4
wrong_fourth rs ss us vs line x e f g i h =
    ap (first_wrong []) (e ∙ ap (λ l. Some (codes "new change topcut bottomcut") ∷ l) (f ∙ ap (λ l. Some line ∷ l) i)) ∙ (twoth line x (Some [] ∷ vs) g ∙ fourth _ _ _ vs h)

pub opens : (rs ss us vs ws : List Row) (line : List ℕ) → rs ≡ Some (codes "new change topcut bottomcut") ∷ ss → ss ≡ Some line ∷ us → us ≡ Some [] ∷ vs → vs ≡ Some (codes "template kind field offset width") ∷ ws → rs ≡ opening_rows line ++ ws
opens rs ss us vs ws line e f g h =
    e ∙ ap (λ l. Some (codes "new change topcut bottomcut") ∷ l) (f ∙ ap (λ l. Some line ∷ l) (g ∙ ap (λ l. Some [] ∷ l) h))

-- a right opening leaves the first wrong line to what is behind it
pub opened : (rs ws : List Row) (line : List ℕ) (x : Actions) → rs ≡ opening_rows line ++ ws → actions_of line ≡ Some x → first_wrong [] rs ≡ first_wrong (opening_rows line) ws
opened rs ws line x e h = ap (first_wrong []) e ∙ twoth line x (Some [] ∷ Some (codes "template kind field offset width") ∷ ws) h
