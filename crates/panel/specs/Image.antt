-- When a header and pieces are an image of a panel.
use Rattle.std.specs.Prelude.{◌≡◌, ℕ, suc, ◌<◌, ◌≤◌, true, cond, List, [], ◌∷◌, length, ℤ, Some, None, Option, ◌==◌, slice_index, slice_index_or}
use Rattle.message.specs.declared.values.HeaderFields.{HeaderFields}
use Rattle.message.specs.Meaning.{Part, entry, number, torn}
use Rattle.panel.specs.Numbers.{Panel, is_listed}

-- how many numbers the pieces tell
unfoldable pub told : List Part → ℕ
told [] = 0
told (entry e ∷ ps) = told ps
told (number f ∷ ps) = suc (told ps)
told (torn ∷ ps) = told ps

-- the number that they tell of a template
unfoldable pub found : ℕ → List Part → Option ℤ
found t [] = None
found t (entry e ∷ ps) = found t ps
found t (number f ∷ ps) = cond (t == f.template) (Some f.value) (found t ps)
found t (torn ∷ ps) = found t ps

-- each number is of a listed template and told once, and no piece misses a field
unfoldable pub Once : List ℕ → List Part → Type 0
Once ts [] = Unit {0}
Once ts (entry e ∷ ps) = Once ts ps
Once ts (number f ∷ ps) = (is_listed ts f.template ≡ true) × (found f.template ps ≡ None) × Once ts ps
Once ts (torn ∷ ps) = ⊥

-- the count, and each number of the panel once
pub record PanelImage (ts : List ℕ) (h : HeaderFields) (ps : List Part) (v : Panel) : Type 0 where
  pub count : h.stats ≡ told ps
  pub room : h.stats ≤ length ts
  pub size : length v ≡ length ts
  pub present : (k : ℕ) → k < length ts → slice_index_or v k None ≡ found (slice_index ts k) ps
  pub once : Once ts ps
