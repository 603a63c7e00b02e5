-- Shares stand by the list of marks, however many are noted at once.
use Rattle.std.proofs.Common.{◌≡◌, ℕ, zero, suc, ◌+◌, ◌<◌, ◌≤◌, max, Bool, true, false, cond, eqb, List, [], ◌∷◌, ◌++◌, length, replicate, Some, None, Option, count_by, sym, refl, ap, ◌∙◌, subst, arith}
use Rattle.std.specs.List.{prefix_len}
use Rattle.std.proofs.lemmas.List.Sums.{sum_by-cons}
use Rattle.std.proofs.lemmas.Bool.{cond-false, ne_eqb}
use Rattle.recovery.specs.declared.answers.Sign.{Sign}
use Rattle.recovery.specs.declared.answers.Sign.TheVariants.{Stale, Recovering, Current}
use Rattle.shares.specs.declared.share.Stretch.{Stretch}
use Rattle.shares.specs.declared.share.Share.{Share}
use Rattle.shares.specs.Noted.{capped, noted, noted_some, further, longer}
use Rattle.shares.specs.Stands.{Stands, Stretches, is_current, is_recovering, is_stale, longest_of}

-- as many more as are noted where they count, and none where they do not
pub count-more : (p : Sign → Bool) (x : Sign) (k : ℕ) (l : List Sign) → p x ≡ true → count_by p (replicate k x ++ l) ≡ count_by p l + k
count-more p x zero l e = omega arith
count-more p x (suc k) l e =
    let here = sum_by-cons (λ (y : Sign). cond (p y) 1 0) x (replicate k x ++ l) in
    let one : ◌≡◌ {A = ℕ} (cond (p x) 1 0) 1 = ap (λ (b : Bool). cond b 1 0) e in
    omega (arith, here, one, count-more p x k l e)

pub count_same : (p : Sign → Bool) (x : Sign) (k : ℕ) (l : List Sign) → p x ≡ false → count_by p (replicate k x ++ l) ≡ count_by p l
count_same p x zero l e = refl
count_same p x (suc k) l e =
    let here = sum_by-cons (λ (y : Sign). cond (p y) 1 0) x (replicate k x ++ l) in
    let none : ◌≡◌ {A = ℕ} (cond (p x) 1 0) 0 = ap (λ (b : Bool). cond b 1 0) e in
    omega (arith, here, none, count_same p x k l e)

pub leading_more : (k : ℕ) (l : List Sign) → prefix_len is_stale (replicate k Stale ++ l) ≡ prefix_len is_stale l + k
leading_more zero l = omega arith
leading_more (suc k) l = omega (arith, leading_more k l)

pub leading_longest : (l : List Sign) → prefix_len is_stale l ≤ longest_of l
leading_longest [] = omega arith
leading_longest (x ∷ l) = omega arith

pub longest_more : (k : ℕ) (l : List Sign) → longest_of (replicate k Stale ++ l) ≡ max (longest_of l) (prefix_len is_stale l + k)
longest_more zero l = omega (arith, leading_longest l)
longest_more (suc k) l = omega (arith, longest_more k l, leading_more k l)

-- marks that are not stale end a stretch, and make none longer
pub leading_ended : (x : Sign) (l : List Sign) → is_stale x ≡ false → prefix_len is_stale (x ∷ l) ≡ 0
leading_ended x l e = ap (λ (b : Bool). cond b (1 + prefix_len is_stale l) 0) e

pub longest_same : (x : Sign) (k : ℕ) (l : List Sign) → is_stale x ≡ false → longest_of (replicate k x ++ l) ≡ longest_of l
longest_same x zero l e = refl
longest_same x (suc k) l e = omega (arith, longest_same x k l e, leading_ended x (replicate k x ++ l) e)

further_stretches : (o : Option Stretch) (n k from to : ℕ) → 0 < k → Stretches o n → Stretches (Some (further o k from to)) (n + k)
further_stretches None n k from to some h = (omega arith, omega (arith, h))
further_stretches (Some s) n k from to some h = (omega arith, omega (arith, h.1))

longer-max : (a b : Stretch) → (longer (Some a) b).packets ≡ max a.packets b.packets
longer-max a b = grind arith

longer_stretches : (o : Option Stretch) (t : Stretch) (n m : ℕ) → Stretches o n → Stretches (Some t) m → Stretches (Some (longer o t)) (max n m)
longer_stretches None t n m h g = (omega (arith, g.0), omega (arith, h, g.1))
longer_stretches (Some a) t n m h g = (omega (arith, g.0), omega (arith, h.1, g.1, longer-max a t))

as_long : (o : Option Stretch) (n m : ℕ) → n ≡ m → Stretches o m → Stretches o n
as_long o n m e h = subst (λ (k : ℕ). Stretches o k) (sym e) h

stale_stands : (s : Share) (k from to : ℕ) (marks : List Sign) → 0 < k → Stands s marks → Stands (noted_some s Stale k from to) (replicate k Stale ++ marks)
stale_stands s k from to marks some h =
    let next = further s.now_stale k from to in
    let here = further_stretches s.now_stale (prefix_len is_stale marks) k from to some h.since in
    record {
      currents = h.currents ∙ ap capped (sym (count_same is_current Stale k marks refl));
      recoverings = h.recoverings ∙ ap capped (sym (count_same is_recovering Stale k marks refl));
      stales = omega (arith, h.stales, count-more is_stale Stale k marks refl);
      since = as_long (Some next) _ _ (leading_more k marks) here;
      most = as_long (Some (longer s.longest next)) _ _ (longest_more k marks) (longer_stretches s.longest next _ _ h.most here);
    }

current-stands : (s : Share) (k from to : ℕ) (marks : List Sign) → Stands s marks → Stands (noted_some s Current (suc k) from to) (replicate (suc k) Current ++ marks)
current-stands s k from to marks h = record {
  currents = omega (arith, h.currents, count-more is_current Current (suc k) marks refl);
  recoverings = h.recoverings ∙ ap capped (sym (count_same is_recovering Current (suc k) marks refl));
  stales = h.stales ∙ ap capped (sym (count_same is_stale Current (suc k) marks refl));
  since = refl;
  most = as_long s.longest _ _ (longest_same Current (suc k) marks refl) h.most;
}

recovering_stands : (s : Share) (k from to : ℕ) (marks : List Sign) → Stands s marks → Stands (noted_some s Recovering (suc k) from to) (replicate (suc k) Recovering ++ marks)
recovering_stands s k from to marks h = record {
  currents = h.currents ∙ ap capped (sym (count_same is_current Recovering (suc k) marks refl));
  recoverings = omega (arith, h.recoverings, count-more is_recovering Recovering (suc k) marks refl);
  stales = h.stales ∙ ap capped (sym (count_same is_stale Recovering (suc k) marks refl));
  since = refl;
  most = as_long s.longest _ _ (longest_same Recovering (suc k) marks refl) h.most;
}

some_noted : (s : Share) (sign : Sign) (k from to : ℕ) (l : List Sign) → Stands (noted_some s sign (suc k) from to) l → Stands (noted s sign (suc k) from to) l
some_noted s sign k from to l h =
    subst (λ (x : Share). Stands x l) (sym (cond-false (eqb (suc k) 0) s (noted_some s sign (suc k) from to) (ne_eqb (suc k) 0 (λ e. omega (arith, e))))) h

pub noted-stands : (s : Share) (sign : Sign) (k from to : ℕ) (marks : List Sign) → Stands s marks → Stands (noted s sign k from to) (replicate k sign ++ marks)
noted-stands s sign zero from to marks h = h
noted-stands s Stale (suc k) from to marks h = some_noted s Stale k from to _ (stale_stands s (suc k) from to marks (omega arith) h)
noted-stands s Current (suc k) from to marks h = some_noted s Current k from to _ (current-stands s k from to marks h)
noted-stands s Recovering (suc k) from to marks h = some_noted s Recovering k from to _ (recovering_stands s k from to marks h)

-- every mark is one of the three
pub all_marks : (l : List Sign) → count_by is_current l + count_by is_recovering l + count_by is_stale l ≡ length l
all_marks [] = refl
all_marks (x ∷ l) =
    let a = sum_by-cons (λ (y : Sign). cond (is_current y) 1 0) x l in
    let b = sum_by-cons (λ (y : Sign). cond (is_recovering y) 1 0) x l in
    let d = sum_by-cons (λ (y : Sign). cond (is_stale y) 1 0) x l in
    omega (arith, a, b, d, one_of x, all_marks l)
  where
    one_of : (x : Sign) → ◌≡◌ {A = ℕ} (cond (is_current x) 1 0 + cond (is_recovering x) 1 0 + cond (is_stale x) 1 0) 1
    one_of Stale = refl
    one_of Recovering = refl
    one_of Current = refl
