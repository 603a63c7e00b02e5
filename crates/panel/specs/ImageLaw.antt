-- Images of a panel fill it, and pieces of no concern change nothing.
use Rattle.std.specs.Prelude.{◌≡◌, ℕ, zero, suc, ◌-◌, ◌<◌, Bool, true, false, cond, List, [], ◌∷◌, length, ℤ, Some, None, Option, ◌==◌, slice_index, slice_index_or}
use Rattle.std.proofs.Math.Path.{refl, ap}
use Rattle.std.proofs.Common.{sym, ◌∙◌, arith}
use Rattle.std.proofs.lemmas.List.{ext_get_or, length-replicate, get_or-replicate}
use Rattle.std.proofs.lemmas.Bool.{eqb-true, le-leb, true≢false}
use Rattle.message.specs.Meaning.{Part, entry, number, torn}
use Rattle.store.specs.Law.{Fills, ImageLaw, Sound}
use Rattle.panel.specs.Numbers.{Panel, no_numbers, noted}
use Rattle.panel.specs.Kind.{panel, concerns_panel, takes_number, put_number, less_number}
use Rattle.panel.specs.Image.{told, found, Once, PanelImage}

pub noted-length : (ts : List ℕ) (v : Panel) (t : ℕ) (x : ℤ) → length (noted ts v t x) ≡ length v
noted-length [] v t x = refl
noted-length (u ∷ us) [] t x = refl
noted-length (u ∷ us) (n ∷ v) t x = ap suc (noted-length us v t x)

-- each place of a noted panel
pub noted_at : (ts : List ℕ) (v : Panel) (t : ℕ) (x : ℤ) (k : ℕ) → k < length ts → length v ≡ length ts → slice_index_or (noted ts v t x) k None ≡ cond (slice_index ts k == t) (Some x) (slice_index_or v k None)
noted_at [] v t x k h e = absurd (omega arith)
noted_at (u ∷ us) [] t x k h e = absurd (omega arith)
noted_at (u ∷ us) (n ∷ v) t x zero h e = refl
noted_at (u ∷ us) (n ∷ v) t x (suc k) h e = noted_at us v t x k (omega arith) (omega arith)

-- what is to come, before what is there
abbrev over : Option ℤ → Option ℤ → Option ℤ
over (Some x) b = Some x
over None b = b

over_none : (a : Option ℤ) → over a None ≡ a
over_none None = refl
over_none (Some x) = refl

none_found : (ps : List Part) (t : ℕ) → told ps ≡ 0 → found t ps ≡ None
unfolding told found
none_found [] t e = refl
none_found (entry x ∷ ps) t e = none_found ps t e
none_found (number f ∷ ps) t e = absurd (omega arith)
none_found (torn ∷ ps) t e = none_found ps t e

one_less : (n : ℕ) → suc n - 1 ≡ n
one_less n = omega arith

module _ (ts : List ℕ) (v : Panel) (w : length v ≡ length ts) where
  -- with these pieces still to come, x becomes v
  Becomes : Panel → List Part → Type 0
  Becomes x ps = (k : ℕ) → k < length ts → slice_index_or v k None ≡ over (found (slice_index ts k) ps) (slice_index_or x k None)

  same : (x : Panel) → length x ≡ length ts → ((k : ℕ) → k < length ts → slice_index_or v k None ≡ slice_index_or x k None) → x ≡ v
  same x e all = ext_get_or None x v (e ∙ sym w) (λ k h. sym (all k (omega arith)))

  done : (ps : List Part) (x : Panel) → length x ≡ length ts → Becomes x ps → (told ps == 0) ≡ true → x ≡ v
  unfolding Becomes
  done ps x e all z = same x e (λ k h. all k h ∙ ap (λ a. over a (slice_index_or x k None)) (none_found ps (slice_index ts k) (eqb-true _ _ z)))

  turned : (t : ℕ) (n : ℤ) (ps : List Part) (x : Panel) (k : ℕ) (b : Bool) → (slice_index ts k == t) ≡ b → found t ps ≡ None
      → slice_index_or v k None ≡ over (cond b (Some n) (found (slice_index ts k) ps)) (slice_index_or x k None) → slice_index_or v k None ≡ over (found (slice_index ts k) ps) (cond b (Some n) (slice_index_or x k None))
  turned t n ps x k true e o h = h ∙ ap (λ a. over a (Some n)) (sym (ap (λ u. found u ps) (eqb-true _ t e) ∙ o))
  turned t n ps x k false e o h = h

  fills : (ps : List Part) (x : Panel) → length x ≡ length ts → Becomes x ps → Once ts ps → Fills (panel ts) x (told ps) ps v
  unfolding told found Once Becomes
  fills [] x e all o = (refl, same x e all)
  fills (entry q ∷ ps) x e all o = (done (entry q ∷ ps) x e all, refl, fills ps x e all o)
  fills (torn ∷ ps) x e all o = absurd o
  fills (number f ∷ ps) x e all o = (
    done (number f ∷ ps) x e all,
    le-leb 1 _ (omega arith),
    rw (one_less (told ps)) (fills ps (noted ts x f.template f.value) (noted-length ts x f.template f.value ∙ e)
        (λ k h. turned f.template f.value ps x k _ refl o.1 (all k h) ∙ ap (over (found (slice_index ts k) ps)) (sym (noted_at ts x f.template f.value k h e))) o.2),
  )

pub panel_image : (ts : List ℕ) → ImageLaw (panel ts) (PanelImage ts)
unfolding Becomes
panel_image ts h ps v i = (
  le-leb _ _ i.room,
  rw i.count (fills ts v i.size ps (no_numbers ts) (length-replicate (length ts) None)
      (λ k b. i.present k b ∙ sym (ap (over (found (slice_index ts k) ps)) (get_or-replicate (length ts) k None None b) ∙ over_none (found (slice_index ts k) ps))) i.once),
)

passes : (ts : List ℕ) (v : Panel) (o : ℕ) (p : Part) → concerns_panel p ≡ false → (takes_number o p ≡ true) × (put_number ts v p ≡ v) × (less_number o p ≡ o)
passes ts v o (entry e) c = (refl, refl, refl)
passes ts v o (number f) c = absurd (true≢false c)
passes ts v o torn c = absurd (true≢false c)

pub panel-sound : (ts : List ℕ) → Sound (panel ts)
panel-sound ts = record { aside = passes ts; broken = λ v. refl; torn = λ v o. refl }
