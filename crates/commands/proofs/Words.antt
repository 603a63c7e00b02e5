-- A word that is no word of a table has nothing beside it.
use Rattle.std.proofs.Common.{◌≡◌, ℕ, List, [], ◌∷◌, false, None, sym, refl, ◌∙◌}
use Rattle.std.specs.Str.{bytes_eq}
use Rattle.std.proofs.lemmas.Bool.{cond-false, false_from_ne_true}
use Rattle.std.proofs.lemmas.Slice.Eq.{bytes_eq-Decides}
use Rattle.commands.specs.Tables.{lookup}

-- none of a table's words is this one
abbrev pub Absent : {V : Type 0} → List (List ℕ × V) → List ℕ → Type 0
Absent [] w = Unit {0}
Absent (e ∷ es) w = (w ≡ e.0 → ⊥) × Absent es w

pub lookup_none : {V : Type 0} (es : List (List ℕ × V)) (w : List ℕ) → Absent es w → None ≡ lookup es w
lookup_none [] w h = refl
lookup_none (e ∷ es) w h =
    let other : bytes_eq w e.0 ≡ false = false_from_ne_true _ (λ t. h.0 ((bytes_eq-Decides w e.0).0 t)) in
    lookup_none es w h.1 ∙ sym (cond-false _ _ _ other)
