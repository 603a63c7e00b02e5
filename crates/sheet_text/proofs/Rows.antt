-- The first row of a text.
use Rattle.std.proofs.Common.{◌≡◌, ℕ, zero, suc, ◌+◌, ◌-◌, ◌<◌, ◌≤◌, min, true, false, eqb, leb, ⊎_elim, List, [], ◌∷◌, ◌++◌, length, get_or, take, drop, Some, None, sym, refl, ap, ◌∙◌, add-one, arith}
use Rattle.std.proofs.lemmas.List.{take_rest, append_assoc, append-nil, length_push, length-take, get_or-take}
use Rattle.std.proofs.lemmas.Bool.{eq-eqb, ne_eqb, le-leb, lt-leb, cond-true, cond-false, cond_both, cases_lt}
use Rattle.std.specs.List.{position}
use Rattle.sheet_text.proofs.Cuts.{none_at, first-at}
use Rattle.sheet_text.specs.Text.{rows, rows_from, ended, starts_well}

row_here : (line bs : List ℕ) (i : ℕ) → i < length bs → ((k : ℕ) → k < i → get_or bs k 0 ≡ 10 → ⊥) → get_or bs i 0 ≡ 10 → rows_from line bs ≡ ended (line ++ take i bs) ∷ rows_from [] (drop (suc i) bs)
row_here line [] i l none here = absurd (omega arith)
row_here line (b ∷ bs) zero l none here = cond-true _ _ _ (eq-eqb b 10 here) ∙ ap (λ x. ended x ∷ rows_from [] bs) (sym (append-nil line))
row_here line (b ∷ bs) (suc i) l none here =
    cond-false _ _ _ (ne_eqb b 10 (none 0 (omega arith)))
    ∙ (row_here (line ++ b ∷ []) bs i (omega arith) (λ k h. none (suc k) (omega arith)) here
    ∙ ap (λ x. ended x ∷ rows_from [] (drop (suc i) bs)) (append_assoc line (b ∷ []) (take i bs)))

row-found : (bs : List ℕ) (i : ℕ) → i < length bs → i ≤ 64 → ((k : ℕ) → k < i → get_or bs k 0 ≡ 10 → ⊥) → get_or bs i 0 ≡ 10 → rows bs ≡ Some (take i bs) ∷ rows (take (length bs - (i + 1)) (drop (i + 1) bs))
row-found bs i l m none here =
    let short : leb (length (take i bs)) 64 ≡ true = le-leb _ _ (simp length-take (omega arith)) in
    rw (take_rest bs (i + 1), add-one) (row_here [] bs i l none here ∙ ap (λ r. r ∷ rows (drop (suc i) bs)) (cond-true _ _ _ short))

-- a line without its line feed
row_open : (line bs : List ℕ) → ((k : ℕ) → k < length bs → get_or bs k 0 ≡ 10 → ⊥) → starts_well (rows_from line bs) ≡ false
row_open line [] none = cond_both (eqb (length line) 0) [] (None ∷ []) (λ r. starts_well r ≡ false) (λ e. refl) (λ e. refl)
row_open line (b ∷ bs) none =
    ap starts_well (cond-false _ _ _ (ne_eqb b 10 (none 0 (omega arith)))) ∙ row_open (line ++ b ∷ []) bs (λ k h. none (suc k) (omega arith))

row-over : (line bs : List ℕ) → 64 < length line → starts_well (rows_from line bs) ≡ false
row-over line [] h = cond_both (eqb (length line) 0) [] (None ∷ []) (λ r. starts_well r ≡ false) (λ e. refl) (λ e. refl)
row-over line (b ∷ bs) h =
    cond_both (eqb b 10) (ended line ∷ rows_from [] bs) (rows_from (line ++ b ∷ []) bs) (λ r. starts_well r ≡ false)
    (λ e. ap (λ r. starts_well (r ∷ rows_from [] bs)) (cond-false _ _ _ (lt-leb (length line) 64 h)))
    (λ e. row-over (line ++ b ∷ []) bs (omega (arith, length_push line b)))

-- a line of more than 64 bytes
row-long : (line bs : List ℕ) (i : ℕ) → i ≤ length bs → 64 < length line + i → ((k : ℕ) → k < i → get_or bs k 0 ≡ 10 → ⊥) → starts_well (rows_from line bs) ≡ false
row-long line bs zero l h none = row-over line bs (omega arith)
row-long line [] (suc i) l h none = absurd (omega arith)
row-long line (b ∷ bs) (suc i) l h none =
    ap starts_well (cond-false _ _ _ (ne_eqb b 10 (none 0 (omega arith))))
    ∙ row-long (line ++ b ∷ []) bs i (omega arith) (omega (arith, length_push line b)) (λ k m. none (suc k) (omega arith))

-- the first row, by the place of the first line feed among the first 65 bytes
pub row_absent : (bs : List ℕ) (n : ℕ) → n ≡ min (length bs) 65 → position (λ x. eqb x 10) (take n bs) ≡ None → starts_well (rows bs) ≡ false
row_absent bs n e h =
    let none : (k : ℕ) → k < n → get_or bs k 0 ≡ 10 → ⊥ = λ k l f. none_at 10 (take n bs) h k (simp length-take (omega arith)) (get_or-take n bs k 0 l ∙ f) in
    ⊎_elim (λ l. row-long [] bs n (omega arith) (omega arith) none) (λ l. row_open [] bs (λ k m. none k (omega arith))) (cases_lt 64 (length bs))

pub row-present : (bs : List ℕ) (n i : ℕ) → n ≡ min (length bs) 65 → position (λ x. eqb x 10) (take n bs) ≡ Some i → (i < length bs) × (rows bs ≡ Some (take i bs) ∷ rows (take (length bs - (i + 1)) (drop (i + 1) bs)))
row-present bs n i e h =
    let f = first-at 10 (take n bs) i h in
    let l : i < n = omega (arith, f.0, length-take n bs) in
    (omega arith, row-found bs i (omega arith) (omega arith) (λ k m g. f.2 k m (get_or-take n bs k 0 (omega arith) ∙ g)) (sym (get_or-take n bs i 0 l) ∙ f.1))
