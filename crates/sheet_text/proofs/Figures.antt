-- Figures, one by one.
use Rattle.std.proofs.Common.{◌≡◌, ℕ, ◌+◌, ◌-◌, ◌*◌, ◌<◌, ◌≤◌, Bool, true, false, cond, leb, List, [], ◌∷◌, length, get_or, drop, Some, None, Option, sym, refl, ap, ◌∙◌, arith}
use Rattle.std.proofs.lemmas.List.{at_drop_more, at_drop_all}
use Rattle.std.proofs.lemmas.Bool.{lt-leb, le-leb, leb-true, leb-false, cond-true, cond-false, cond_both}
use Rattle.sheet_text.specs.Text.{is_figure, figures_from, up_to_most, and_then}

abbrev pub valued : ℕ → ℕ → List ℕ → Option ℕ
valued most n ds = and_then (figures_from n ds) (up_to_most most)

-- n with one figure more behind it, where that is at most `most`
abbrev pub one_more : ℕ → ℕ → ℕ → Option ℕ
one_more most n d = cond (is_figure d) (up_to_most most (n * 10 + (d - 48))) None

figure-over : (most n : ℕ) (ds : List ℕ) → most < n → valued most n ds ≡ None
figure-over most n [] h = cond-false _ _ _ (lt-leb n most h)
figure-over most n (d ∷ ds) h =
    cond_both (is_figure d) (figures_from (n * 10 + (d - 48)) ds) None (λ o. and_then o (up_to_most most) ≡ None)
    (λ e. figure-over most (n * 10 + (d - 48)) ds (omega arith))
    (λ e. refl)

figure-kept : (most m : ℕ) (ds : List ℕ) → and_then (up_to_most most m) (λ k. valued most k ds) ≡ valued most m ds
figure-kept most m ds =
    cond_both (leb m most) (Some m) None (λ o. and_then o (λ k. valued most k ds) ≡ valued most m ds)
    (λ e. refl)
    (λ e. sym (figure-over most m ds (leb-false m most e)))

figure-one : (most n d : ℕ) (ds : List ℕ) → valued most n (d ∷ ds) ≡ and_then (one_more most n d) (λ m. valued most m ds)
figure-one most n d ds = go (is_figure d)
  where
    go : (b : Bool) → and_then (cond b (figures_from (n * 10 + (d - 48)) ds) None) (up_to_most most) ≡ and_then (cond b (up_to_most most (n * 10 + (d - 48))) None) (λ m. valued most m ds)
    go true = sym (figure-kept most (n * 10 + (d - 48)) ds)
    go false = refl

pub figure-within : (most n d m : ℕ) → one_more most n d ≡ Some m → m ≤ most
figure-within most n d m =
    cond_both (is_figure d) (up_to_most most (n * 10 + (d - 48))) None (λ o. o ≡ Some m → m ≤ most)
    (λ e. cond_both (leb (n * 10 + (d - 48)) most) (Some (n * 10 + (d - 48))) None (λ o. o ≡ Some m → m ≤ most) (λ f h. let l = leb-true (n * 10 + (d - 48)) most f in let g : n * 10 + (d - 48) ≡ m = cc in omega arith) (λ f h. absurd cc))
    (λ e h. absurd cc)

-- a figure that stands at i, or a byte that is none, or is one too many
pub figure-step : (most n i : ℕ) (r : Option ℕ) (w : List ℕ) → i < length w → r ≡ one_more most n (get_or w i 0) → valued most n (drop i w) ≡ and_then r (λ m. valued most m (drop (i + 1) w))
figure-step most n i r w l h = at_drop_more (valued most n) w i 0 l ∙ (figure-one most n (get_or w i 0) (drop (i + 1) w) ∙ ap (λ o. and_then o (λ m. valued most m (drop (i + 1) w))) (sym h))

pub figure-all : (most n i : ℕ) (w : List ℕ) → length w ≤ i → n ≤ most → valued most n (drop i w) ≡ Some n
figure-all most n i w l h = at_drop_all (valued most n) w i l ∙ cond-true _ _ _ (le-leb n most h)
