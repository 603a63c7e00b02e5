-- Columns tell what was noted: at first, once each two are joined, and with one note more.
use Rattle.std.proofs.Common.{◌≡◌, ℕ, ◌+◌, ◌*◌, ◌/◌, ◌^◌, ◌<◌, ◌≤◌, max, cond, ◌⊎◌, List, [], ◌∷◌, get_or, sym, refl, ap, ◌∙◌, subst, inl, inr, ⊎_elim, mul-div_cancel, arith}
use native.Mathlib.Nat.{div-div-eq-div-mul}
use Rattle.std.proofs.lemmas.Nat.{div_below, le-div, div-add-mod', mul-le}
use Rattle.std.proofs.lemmas.Bool.{cases_lt, le-leb}
use Rattle.coverage.specs.Cells.{Lifted, Halved, higher_of_two}
use Rattle.coverage.specs.Notes.{Note, At, Noted, Highest, Tells, noting}

pub tells_none : (cells : List ℕ) → ((k : ℕ) → k < 1024 → get_or cells k 0 ≡ 0) → Tells [] 1 cells
tells_none cells zero =
    record { within = λ n m h. absurd h; columns = λ k lt. record { bound = λ n m h. absurd h; reached = inl (zero k lt) } }

-- the highest of two columns is the higher of their highest
joined :
    (notes : List Note) (w k a b : ℕ) → Highest notes w (2 * k) a → Highest notes w (2 * k + 1) b → Highest notes (w * 2) k (max a b)
joined notes w k a b left right =
    record {
      bound =
          λ n m h e.
          let half : n / w / 2 ≡ k = div-div-eq-div-mul n w 2 ∙ e in
          ⊎_elim
          (λ (low : n / w < 2 * k + 1). let le = left.bound n m h (omega arith) in omega arith)
          (λ (high : 2 * k + 1 ≤ n / w). let le = right.bound n m h (omega arith) in omega arith)
          (cases_lt (n / w) (2 * k + 1));
      reached =
          ⊎_elim
          (λ (lt : a < b). from b (omega arith) (λ n at. omega (arith, at)) right.reached)
          (λ (le : b ≤ a). from a (omega arith) (λ n at. omega (arith, at)) left.reached)
          (cases_lt a b);
    }
  where
    from :
        (v : ℕ) → max a b ≡ v → {c : ℕ} → ((n : ℕ) → n / w ≡ c → n / w / 2 ≡ k)
        → (v ≡ 0) ⊎ ((n : ℕ) × (n / w ≡ c) × Noted notes n v)
        → (max a b ≡ 0) ⊎ ((n : ℕ) × (n / (w * 2) ≡ k) × Noted notes n (max a b))
    from v e in-k (inl z) = inl (e ∙ z)
    from v e in-k (inr found) =
        let P : ℕ → Type 0 = λ m. Noted notes found.0 m in
        inr (found.0, sym (div-div-eq-div-mul found.0 w 2) ∙ in-k found.0 found.1, subst P (sym e) found.2)

at_level : (notes : List Note) (w k a b : ℕ) → b ≡ a → Highest notes w k a → Highest notes w k b
at_level notes w k a b e highest = let P : ℕ → Type 0 = λ v. Highest notes w k v in subst P (sym e) highest

pub tells_joined : (notes : List Note) (w : ℕ) (xs ys : List ℕ) → Halved xs ys → Tells notes w xs → Tells notes (w * 2) ys
tells_joined notes w xs ys halved tells =
    record {
      within = λ n m h. let lt = tells.within n m h in let e = div-div-eq-div-mul n w 2 in omega arith;
      columns =
          λ k lt.
          ⊎_elim
          (λ (low : k < 512).
          at_level notes (w * 2) k (higher_of_two xs k) (get_or ys k 0) (halved.lower k low)
          (joined notes w k (get_or xs (2 * k) 0) (get_or xs (2 * k + 1) 0) (tells.columns (2 * k) (omega arith)) (tells.columns (2 * k + 1) (omega arith))))
          (λ (high : 512 ≤ k).
          record {
            bound =
                λ n m h e.
                let in-range = tells.within n m h in
                let half : n / w / 2 ≡ k = div-div-eq-div-mul n w 2 ∙ e in
                absurd (omega arith);
            reached = inl (halved.upper k high lt);
          })
          (cases_lt k 512);
    }

pub div_mono : (a b w : ℕ) → 0 < w → a ≤ b → a / w ≤ b / w
div_mono a b w pos le = le-div (a / w) b w pos (omega (arith, div-add-mod' a w))

-- a column between those of two numbers has a number between them
between : (low high w k : ℕ) → 0 < w → low ≤ high → low / w ≤ k → k ≤ high / w → (n : ℕ) × (n / w ≡ k) × (low ≤ n) × (n ≤ high)
between low high w k pos le from to =
    ⊎_elim
    (λ (lt : low < k * w). (k * w, mul-div_cancel k pos, omega arith, up))
    (λ (ge : k * w ≤ low). let in-k = le-div k low w pos ge in (low, omega arith, omega arith, le))
    (cases_lt low (k * w))
  where
    up : k * w ≤ high
    up = ⊎_elim (λ (lt : high < k * w). let c = div_below high w k pos lt in absurd (omega arith)) (λ (ge : k * w ≤ high). ge) (cases_lt high (k * w))

old-reached :
    (notes : List Note) (note : Note) (w k v : ℕ) → (v ≡ 0) ⊎ ((n : ℕ) × (n / w ≡ k) × Noted notes n v)
    → (v ≡ 0) ⊎ ((n : ℕ) × (n / w ≡ k) × Noted (note ∷ notes) n v)
old-reached notes note w k v (inl z) = inl z
old-reached notes note w k v (inr found) = inr (found.0, found.1, inr found.2)

-- a column that the note does not reach
untouched :
    (notes : List Note) (note : Note) (w k v : ℕ) → ((n m : ℕ) → At note n m → n / w ≡ k → ⊥)
    → Highest notes w k v → Highest (note ∷ notes) w k v
untouched notes note w k v none highest =
    record {
      bound = λ n m h e. ⊎_elim (λ (new : At note n m). absurd (none n m new e)) (λ (old : Noted notes n m). highest.bound n m old e) h;
      reached = old-reached notes note w k v highest.reached;
    }

-- a column that the note reaches at a number
touched :
    (notes : List Note) (note : Note) (w k v n : ℕ) → At note n note.level → n / w ≡ k
    → Highest notes w k v → Highest (note ∷ notes) w k (max v note.level)
touched notes note w k v n at in-k highest =
    record {
      bound =
          λ i m h e.
          ⊎_elim
          (λ (new : At note i m). let is = new.2 in omega arith)
          (λ (old : Noted notes i m). let le = highest.bound i m old e in omega arith)
          h;
      reached =
          ⊎_elim
          (λ (lt : v < note.level). let e : max v note.level ≡ note.level = omega arith in inr (n, in-k, inl (at.0, at.1, e)))
          (λ (le : note.level ≤ v).
          let e : v ≡ max v note.level = omega arith in
          let P : ℕ → Type 0 = λ m. (m ≡ 0) ⊎ ((i : ℕ) × (i / w ≡ k) × Noted (note ∷ notes) i m) in
          subst P e (old-reached notes note w k v highest.reached))
          (cases_lt v note.level);
    }

pub tells-noted :
    (notes : List Note) (note : Note) (w : ℕ) (xs ys : List ℕ) → 0 < w → note.low ≤ note.high → note.high / w < 1024
    → Lifted xs ys (note.low / w) (note.high / w + 1) note.level
    → Tells notes w xs → Tells (note ∷ notes) w ys
tells-noted notes note w xs ys pos some in-range lifted tells =
    record {
      within =
          λ n m h.
          ⊎_elim
          (λ (new : At note n m). let le = div_mono n note.high w pos new.1 in omega arith)
          (λ (old : Noted notes n m). tells.within n m old)
          h;
      columns =
          λ k lt.
          ⊎_elim
          (λ (below : k < note.low / w).
          at_level (note ∷ notes) w k (get_or xs k 0) (get_or ys k 0) (lifted.below k below)
          (untouched notes note w k (get_or xs k 0) (λ n m at e. let le = div_mono note.low n w pos at.0 in omega arith) (tells.columns k lt)))
          (λ (from : note.low / w ≤ k).
          ⊎_elim
          (λ (inside : k < note.high / w + 1).
          let found = between note.low note.high w k pos some from (omega arith) in
          at_level (note ∷ notes) w k (max (get_or xs k 0) note.level) (get_or ys k 0) (lifted.inside k from inside)
          (touched notes note w k (get_or xs k 0) found.0 (found.2, found.3, refl) found.1 (tells.columns k lt)))
          (λ (above : note.high / w + 1 ≤ k).
          at_level (note ∷ notes) w k (get_or xs k 0) (get_or ys k 0) (lifted.above k above)
          (untouched notes note w k (get_or xs k 0) (λ n m at e. let le = div_mono n note.high w pos at.1 in omega arith) (tells.columns k lt)))
          (cases_lt k (note.high / w + 1)))
          (cases_lt k (note.low / w));
    }

-- a number of 64 bits that 1,024 columns do not hold leaves room to double their width
pub room-to_double : (n w : ℕ) → n < 2 ^ 64 → 1024 ≤ n / w → w < 2 ^ 63
room-to_double n w fits le = omega (arith, mul-le 1024 w (n / w) w le (omega arith), div-add-mod' n w)

pub halves : (n w : ℕ) → n / (w * 2) ≡ n / w / 2
halves n w = sym (div-div-eq-div-mul n w 2)

-- with the note in question, where it has a number
pub tells-noting :
    (notes : List Note) (w low high level : ℕ) (xs ys : List ℕ) → 0 < w → low ≤ high → high / w < 1024
    → Lifted xs ys (low / w) (high / w + 1) level → Tells notes w xs → Tells (noting low high level notes) w ys
tells-noting notes w low high level xs ys pos some in-range lifted tells =
    let note : Note = record { low = low; high = high; level = level } in
    let e : noting low high level notes ≡ note ∷ notes = ap (λ b. cond b (note ∷ notes) notes) (le-leb low high some) in
    let P : List Note → Type 0 = λ l. Tells l w ys in
    subst P (sym e) (tells-noted notes note w xs ys pos some in-range lifted tells)
