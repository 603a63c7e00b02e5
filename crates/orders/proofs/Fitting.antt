-- the tests of a side's edits, where its n orders have room
use Rattle.std.proofs.Common.{◌≡◌, ℕ, ◌-◌, ◌<◌, ◌≤◌, Bool, true, false, ◌&&◌, leb, List, ◌++◌, length, take, refl, ap, ◌∙◌, arith}
use Rattle.std.proofs.lemmas.List.{append-nil, drop_all}
use Rattle.std.proofs.lemmas.Bool.{le-leb}
use Rattle.positions.specs.Positions.{fits_cut, fits_change, cut_out}
use Rattle.orders.specs.declared.rows.Rows.{Rows}
use Rattle.orders.specs.Rows.{row}
use Rattle.orders.specs.Edits.{taken}
use Rattle.orders.proofs.Putting.{row-length}

and_true : (x y : Bool) → y ≡ true → (x && y) ≡ x
and_true true y e = e
and_true false y e = refl

pub and_given : (x y : Bool) → x ≡ true → y ≡ (x && y)
and_given true y e = refl
and_given false y e = absurd (let z : ◌≡◌ {A = ℕ} 0 1 = cc in omega arith)

pub row_room : (s : Rows) (r : ℕ) → r < s.count → length (row s r) ≤ s.depth
row_room s r i = omega (arith, row-length s r i, s.within r i)

module _ (d n p : ℕ) (l : n ≤ d) where
  pub change_taken : fits_change d n p ≡ taken n p
  change_taken = ap (λ z. leb 1 p && z) (and_true _ _ (le-leb n d l))

  pub delete-taken : fits_cut d n p p ≡ taken n p
  delete-taken = ap (λ z. leb 1 p && (z && (leb p n && leb n d))) (le-leb p p (omega arith)) ∙ change_taken

  pub top_taken : fits_cut d n 1 p ≡ taken n p
  top_taken = ap (λ z. leb 1 p && z) (and_true _ _ (le-leb n d l))

  pub bottom_taken : fits_cut d n p n ≡ taken n p
  bottom_taken = ap (λ z. leb 1 p && (leb p n && (z && leb n d))) (le-leb n n (omega arith)) ∙ change_taken

pub bottom_cut : {X : Type 0} (xs : List X) (p n : ℕ) → n ≡ length xs → cut_out xs p n ≡ take (p - 1) xs
bottom_cut xs p n e = ap (λ z. take (p - 1) xs ++ z) (drop_all n xs (omega arith)) ∙ append-nil (take (p - 1) xs)
