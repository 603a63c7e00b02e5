-- what a store of panels holds after a write
use Rattle.std.proofs.Common.{◌≡◌, ℕ, zero, suc, ◌<◌, ◌≤◌, Bool, true, false, cond, eqb, List, [], ◌∷◌, length, map, get_or, take, set, replicate, ℤ, None, Option, refl, sym, ap, ◌∙◌, arith}
use Rattle.std.proofs.lemmas.List.{map-set, get_or-map, take-replicate, length-take-le, length-map, get_or_past}
use Rattle.store.specs.Kind.{Model}
use Rattle.store.specs.Calls.{with_slot}
use Rattle.panel.specs.declared.listed.Listed.{Listed}
use Rattle.panel.specs.declared.numbers.Numbers.{Numbers}
use Rattle.panel.specs.declared.panel_store.PanelStore.{PanelStore}
use Rattle.panel.specs.Numbers.{Panel, no_numbers, noted, number_of}
use Rattle.panel.specs.Kind.{panel}
use Rattle.panel.specs.Model.{templates_of, panel_of, setup_of, model_of}
use Rattle.panel.specs.Shown.{shown}

abbrev pub model : List Panel → Panel → ℕ → Model Panel ℕ
model l v w = record { slots = l; staged = v; owed = w }

-- no number in any place
pub none_noted : (l : Listed) (n : Numbers) → n.places ≡ replicate 16 None → panel_of l n ≡ no_numbers (templates_of l)
none_noted l n e =
    ap (take l.count) e ∙ (take-replicate l.count 16 None l.room ∙ ap (λ m. replicate m None) (sym (length-take-le l.count l.places (omega (arith, l.size, l.room)))))

-- a panel in the place of another
pub panel_set : (s : PanelStore) (i : ℕ) (n : Numbers) → model (map (panel_of s.listed) (set s.panels i n)) (panel_of s.listed s.staged) s.owed ≡ with_slot (panel (setup_of s)) (model_of s) i (panel_of s.listed n)
panel_set s i n = ap (λ l. model l (panel_of s.listed s.staged) s.owed) (map-set (panel_of s.listed) s.panels i n)

same_everywhere : (l : Listed) (n : Numbers) (m : ℕ) → map (panel_of l) (replicate m n) ≡ replicate m (panel_of l n)
same_everywhere l n zero = refl
same_everywhere l n (suc m) = ap (λ z. panel_of l n ∷ z) (same_everywhere l n m)

pub all_fresh : (l : Listed) (n : Numbers) → n.places ≡ replicate 16 None → map (panel_of l) (replicate 64 n) ≡ replicate 64 (no_numbers (templates_of l))
all_fresh l n e = same_everywhere l n 64 ∙ ap (replicate 64) (none_noted l n e)

-- a statistic that is noted in the panel at a place
pub noted_in : (l : Listed) (ps : List Numbers) (i : ℕ) (m n : Numbers) (t : ℕ) (x : ℤ) → i < length ps → panel_of l n ≡ noted (templates_of l) (panel_of l (get_or ps i m)) t x
    → map (panel_of l) (set ps i n) ≡ set (map (panel_of l) ps) i (noted (templates_of l) (get_or (map (panel_of l) ps) i (no_numbers (templates_of l))) t x)
noted_in l ps i m n t x h q =
    map-set (panel_of l) ps i n
    ∙ ap (set (map (panel_of l) ps) i) (q ∙ ap (λ v. noted (templates_of l) v t x) (sym (get_or-map (panel_of l) ps i m (no_numbers (templates_of l)) h)))

either_none : (b : Bool) (x : Option ℤ) → None ≡ x → None ≡ cond b None x
either_none true x e = refl
either_none false x e = e

-- a panel without numbers shows none
none-of-none : (ts : List ℕ) (m t : ℕ) → None ≡ number_of ts (replicate m None) t
none-of-none [] m t = refl
none-of-none (u ∷ us) zero t = refl
none-of-none (u ∷ us) (suc m) t = either_none (eqb u t) _ (none-of-none us m t)

pub none-shown : (s : PanelStore) (i t : ℕ) → 64 ≤ i → None ≡ shown s i t
none-shown s i t h =
    none-of-none (setup_of s) (length (setup_of s)) t
    ∙ ap (λ v. number_of (setup_of s) v t) (sym (get_or_past (map (panel_of s.listed) s.panels) i (no_numbers (setup_of s)) (omega (arith, length-map s.panels (panel_of s.listed), s.slots))))
