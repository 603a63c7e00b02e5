-- the loop over a panel: what is left of it, at each place; and the place of a template
use Rattle.std.proofs.Common.{◌≡◌, ℕ, suc, Bool, true, false, not, ◌+◌, ◌<◌, ◌≤◌, cond, eqb, ltb, List, [], ◌∷◌, ◌++◌, length, get_or, take, drop, set, ℤ, Some, None, Option, refl, sym, ap, ◌∙◌, arith}
use Rattle.std.proofs.Math.Seq.{take-set-lt}
use Rattle.std.proofs.lemmas.List.{length-take-le, take_more_set, drop_more, drop-set-lt, append_assoc, append-nil, drop_all, take_all, set-get_or, get_or-take, get_or_past}
use Rattle.std.proofs.lemmas.Bool.{ltb-true, ltb-false, eq-eqb, ne_eqb, cond-true, cond-false}
use Rattle.std.specs.List.{position, position_or_len}
use Rattle.panel.specs.Numbers.{Panel, noted, number_of}

abbrev pub left : List ℕ → Panel → ℕ → ℤ → ℕ → Panel
left ts v t x k = take k v ++ noted (drop k ts) (drop k v) t x

module _ (ts : List ℕ) (v : Panel) (t : ℕ) (x : ℤ) (k : ℕ) (h : k < length ts) (e : length v ≡ length ts) where
  pub note_more : (y : Option ℤ) → y ≡ cond (eqb (get_or ts k 0) t) (Some x) (get_or v k None) → left ts (set v k y) t x (k + 1) ≡ left ts v t x k
  note_more y q =
      let l : k < length v = omega arith in
      ap (λ z. z ++ noted (drop (k + 1) ts) (drop (k + 1) (set v k y)) t x) (take_more_set v k y l)
      ∙ (append_assoc (take k v) (y ∷ []) _
      ∙ (ap (λ z. take k v ++ (y ∷ noted (drop (k + 1) ts) z t x)) (drop-set-lt (k + 1) v k y (omega arith))
      ∙ (ap (λ z. take k v ++ (z ∷ noted (drop (k + 1) ts) (drop (k + 1) v) t x)) q
      ∙ sym (ap (λ z. take k v ++ noted z (drop k v) t x) (drop_more ts k 0 h) ∙ ap (λ z. take k v ++ noted (get_or ts k 0 ∷ drop (k + 1) ts) z t x) (drop_more v k None l)))))

-- a place that is written, or passed over, where a panel lies at the front of its places
module _ (ts : List ℕ) (v : Panel) (t : ℕ) (x : ℤ) (k : ℕ) (h : k < length ts) (e : length ts ≤ length v) where
  long : length (take (length ts) v) ≡ length ts
  long = length-take-le (length ts) v e

  pub note_here : get_or ts k 0 ≡ t → left ts (take (length ts) (set v k (Some x))) t x (k + 1) ≡ left ts (take (length ts) v) t x k
  note_here q =
      ap (λ z. left ts z t x (k + 1)) (take-set-lt (length ts) v k (Some x) h)
      ∙ note_more ts (take (length ts) v) t x k h long (Some x) (sym (cond-true _ _ _ (eq-eqb _ _ q)))

  pub note_other : (get_or ts k 0 ≡ t → ⊥) → left ts (take (length ts) v) t x (k + 1) ≡ left ts (take (length ts) v) t x k
  note_other q =
      let w = take (length ts) v in
      ap (λ z. left ts z t x (k + 1)) (sym (set-get_or w k None))
      ∙ note_more ts w t x k h long (get_or w k None) (sym (cond-false _ _ _ (ne_eqb _ _ q)))

pub note_all : (ts : List ℕ) (v : Panel) (t : ℕ) (x : ℤ) (k : ℕ) → length ts ≤ k → length v ≡ length ts → v ≡ left ts v t x k
note_all ts v t x k h e = sym (ap (λ z. take k v ++ noted z (drop k v) t x) (drop_all k ts h) ∙ (ap (λ z. take k v ++ z) (drop_all k v (omega arith)) ∙ (append-nil (take k v) ∙ take_all k v (omega arith))))

at_step : (b : Bool) (n : Option ℤ) (v : Panel) (m : ℕ) (r : Option ℤ) → get_or v m None ≡ r → get_or (n ∷ v) (cond (not b) (1 + m) 0) None ≡ cond b n r
at_step true n v m r e = refl
at_step false n v m r e = let o : 1 + m ≡ suc m = omega arith in ap (λ z. get_or (n ∷ v) z None) o ∙ e

-- the number at the first place of a template
pub found_at : (ts : List ℕ) (v : Panel) (t : ℕ) → length v ≡ length ts → get_or v (position_or_len (λ u. eqb u t) ts) None ≡ number_of ts v t
found_at [] [] t e = refl
found_at [] (n ∷ v) t e = absurd (omega arith)
found_at (u ∷ us) [] t e = absurd (omega arith)
found_at (u ∷ us) (n ∷ v) t e = at_step (eqb u t) n v _ _ (found_at us v t (omega arith))

shown : (b : Bool) (j k : ℕ) → cond b (Some j) None ≡ Some k → (b ≡ true) × (j ≡ k)
shown true j k e = (refl, cc)
shown false j k e = absurd (let z : ◌≡◌ {A = ℕ} 0 1 = cc in omega arith)

absent : (b : Bool) (j : ℕ) → cond b (Some j) None ≡ None → b ≡ false
absent true j e = absurd (let z : ◌≡◌ {A = ℕ} 0 1 = cc in omega arith)
absent false j e = refl

module _ (ts : List ℕ) (v : Panel) (t : ℕ) (e : length ts ≤ length v) where
  at_place : get_or (take (length ts) v) (position_or_len (λ u. eqb u t) ts) None ≡ number_of ts (take (length ts) v) t
  at_place = found_at ts (take (length ts) v) t (length-take-le (length ts) v e)

  pub found_some : (k : ℕ) → position (λ u. eqb u t) ts ≡ Some k → get_or v k None ≡ number_of ts (take (length ts) v) t
  found_some k q =
      let j = position_or_len (λ u. eqb u t) ts in
      let p = shown (ltb j (length ts)) j k q in
      let l = ltb-true j (length ts) p.0 in
      ap (λ z. get_or v z None) (sym p.1) ∙ (sym (get_or-take (length ts) v j None l) ∙ at_place)

  pub found_none : position (λ u. eqb u t) ts ≡ None → None ≡ number_of ts (take (length ts) v) t
  found_none q =
      let j = position_or_len (λ u. eqb u t) ts in
      let l = ltb-false j (length ts) (absent (ltb j (length ts)) j q) in
      sym (get_or_past (take (length ts) v) j None (omega (arith, l, length-take-le (length ts) v e))) ∙ at_place
