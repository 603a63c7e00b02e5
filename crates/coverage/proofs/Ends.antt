-- All bands are clear at first, and turn one after the other at the end; one band takes two turns.
use Rattle.std.proofs.Common.{◌≡◌, ℕ, ◌+◌, ◌<◌, ◌≤◌, min, Bool, true, ◌&&◌, eqb, ltb, List, [], ◌∷◌, ◌++◌, length, get_or, set, length-set, MatchBool, sym, ap, ◌∙◌, subst, ⊎_elim, arith}
use Rattle.std.proofs.lemmas.Bool.Decides.{nat_tests}
use Rattle.std.proofs.lemmas.List.{get_or_push, get_or_append_left, get_or-set_same, get_or-set_other, get_or_default}
use Rattle.std.proofs.lemmas.Bool.{cases_eq}
use Rattle.coverage.specs.declared.band.Band.{Band}
use Rattle.coverage.specs.declared.coverage.Coverage.{Coverage}
use Rattle.coverage.specs.Bands.{count, band_at, Beside}
use Rattle.coverage.specs.Changes.{TurnTaken, Passed}
use Rattle.coverage.specs.Held.{Clear}

-- the bands below a slot have turned, the others are as they were
pub record TurnedBelow (before after : List Band) (slot next : ℕ) : Type 0 where
  pub number : length after ≡ length before
  pub below : (q : ℕ) (d : Band) → q < slot → TurnTaken (get_or before q d) (get_or after q d) next 0
  pub above : (q : ℕ) (d : Band) → slot ≤ q → get_or after q d ≡ get_or before q d

pub turned_more :
    (xs ys : List Band) (slot next : ℕ) (a b : Band) → slot < length ys → TurnTaken (get_or ys slot a) b next 0
    → TurnedBelow xs ys slot next → TurnedBelow xs (set ys slot b) (slot + 1) next
turned_more xs ys slot next a b lt turned below =
    record {
      number = length-set ys slot b ∙ below.number;
      below =
          λ q d h.
          ⊎_elim
          (λ (here : q ≡ slot).
          let P : ℕ → Type 0 = λ k. TurnTaken (get_or xs k d) (get_or (set ys slot b) k d) next 0 in
          let F : Band → Type 0 = λ x. TurnTaken (get_or xs slot d) x next 0 in
          let G : Band → Type 0 = λ x. TurnTaken x b next 0 in
          subst P (sym here) (subst F (sym (get_or-set_same ys slot b d lt)) (subst G (get_or_default ys slot a d lt ∙ below.above slot d (omega arith)) turned)))
          (λ (ne : q ≡ slot → ⊥).
          let F : Band → Type 0 = λ x. TurnTaken (get_or xs q d) x next 0 in
          subst F (sym (get_or-set_other ys slot q b d ne)) (below.below q d (omega arith)))
          (cases_eq q slot);
      above = λ q d h. get_or-set_other ys slot q b d (omega arith) ∙ below.above q d (omega arith);
    }

pub clear-push :
    (xs ys : List Band) (x : Band) (n m first : ℕ) → n ≡ length xs → ys ≡ xs ++ x ∷ [] → m ≡ n + 1 → Clear x first
    → ((q : ℕ) (d : Band) → q < n → Clear (get_or xs q d) first)
    → (q : ℕ) (d : Band) → q < m → Clear (get_or ys q d) first
clear-push xs ys x n m first len items more new old q d lt =
    let C : Band → Type 0 = λ b. Clear b first in
    let at = ap (λ l. get_or l q d) items in
    ⊎_elim
    (λ (here : q ≡ n). subst C (sym (at ∙ get_or_push xs x d q (sym (here ∙ len)))) new)
    (λ (ne : q ≡ n → ⊥). subst C (sym (at ∙ get_or_append_left xs (x ∷ []) d q (omega arith))) (old q d (omega arith)))
    (cases_eq q n)

pub beside_twice : (a b c : Coverage) (slot : ℕ) → Beside a b slot → Beside b c slot → Beside a c slot
beside_twice a b c slot first second =
    record {
      number = second.number ∙ first.number;
      others = λ q d ne. second.others q d ne ∙ first.others q d ne;
    }

-- recovering at the numbers that were passed over, then current
pub passed_over :
    (a b c : Coverage) (slot next heard level : ℕ) → next < heard → level ≡ 1 → Beside a b slot
    → ((d : Band) → slot < count a → TurnTaken (band_at a slot d) (band_at b slot d) next 2)
    → ((d : Band) → slot < count b → TurnTaken (band_at b slot d) (band_at c slot d) heard level)
    → (d : Band) → slot < count a → Passed (band_at a slot d) (band_at c slot d) next heard level
passed_over a b c slot next heard level lt e beside first second d in-range =
    let both : (ltb next heard && eqb level 1) ≡ true = grind (arith, nat_tests) in
    let T : ℕ → Type 0 = λ l. TurnTaken (band_at b slot d) (band_at c slot d) heard l in
    let W : Bool → Type 0 =
    λ t.
    MatchBool t
    ((between : Band) × TurnTaken (band_at a slot d) between next 2 × TurnTaken between (band_at c slot d) heard 1)
    (TurnTaken (band_at a slot d) (band_at c slot d) (min next heard) level) in
    subst W (sym both) (band_at b slot d, first d in-range, subst T e (second d (omega (arith, beside.number))))
