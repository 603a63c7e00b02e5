-- Cells whose lower half is written one by one, and whose upper half is filled.
use Rattle.std.proofs.Common.{◌≡◌, ℕ, ◌+◌, ◌-◌, List, length, take, replicate, get_or, ap, ◌∙◌, subst, arith}
use Rattle.std.proofs.lemmas.List.{get_or-replicate, get_or_append_left, get_or-take, get_or-append-add, length-take-le, length-replicate}
use borrow.Rule.Slice.PartMut.{put_mid}
use Rattle.coverage.specs.Cells.{Filled, Halved, higher_of_two}

pub filled_to : (f : ℕ → ℕ) (xs ys : List ℕ) (from k end : ℕ) → k ≡ end → Filled f xs ys from k → Filled f xs ys from end
filled_to f xs ys from k end e filled = let P : ℕ → Type 0 = λ n. Filled f xs ys from n in subst P e filled

-- the lower half is the higher of two, and the upper half is filled with 0
pub halved :
    (xs ys zs : List ℕ) (n : ℕ) → length ys ≡ 1024 → Filled (higher_of_two xs) xs ys 0 512 → zs ≡ replicate n 0 → n ≡ 512
    → Halved xs (put_mid 512 (length ys - 512) ys zs)
halved xs ys zs n long filled zeros half =
    let lower : length (take 512 ys) ≡ 512 = length-take-le 512 ys (omega arith) in
    let upper : length zs ≡ n = ap length zeros ∙ length-replicate n 0 in
    record {
      lower =
          λ k h.
          get_or_append_left (take 512 ys) _ 0 k (omega arith) ∙ (get_or-take 512 ys k 0 h ∙ filled.inside k (omega arith) h);
      upper =
          λ k h g.
          let place : k ≡ length (take 512 ys) + (k - 512) = omega arith in
          ap (λ (i : ℕ). get_or (put_mid 512 (length ys - 512) ys zs) i 0) place
          ∙ (get_or-append-add (take 512 ys) _ (k - 512) 0
          ∙ (get_or_append_left zs _ 0 (k - 512) (omega arith)
          ∙ (ap (λ (l : List ℕ). get_or l (k - 512) 0) zeros ∙ get_or-replicate n (k - 512) 0 0 (omega arith))));
    }
