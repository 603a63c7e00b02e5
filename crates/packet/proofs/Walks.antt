-- One step over a message in the check of a packet.
use Rattle.std.proofs.Common.{◌≡◌, ℕ, zero, suc, ◌+◌, ◌-◌, ◌<◌, ◌≤◌, List, [], ◌∷◌, length, drop, Ok, Err, sym, refl, ap, ◌∙◌, sub-one, arith}
use Rattle.layout.specs.declared.sheet.Sheet.{Sheet}
use Rattle.packet.specs.declared.fault.FrameFault.{FrameFault}
use Rattle.packet.specs.Rules.{and_then, message_check, walk_check}

walk_skip : (s : Sheet) (k : ℕ) (bs : List ℕ) (at : ℕ) → walk_check s k bs at ≡ walk_check s 0 (drop k bs) at
unfolding walk_check
walk_skip s zero [] at = refl
walk_skip s (suc k) [] at = refl
walk_skip s zero (b ∷ bs) at = refl
walk_skip s (suc k) (b ∷ bs) at = walk_skip s k bs at

pub walk_step : (s : Sheet) (bs : List ℕ) (at n : ℕ) → 0 < length bs → 0 < n → Ok n ≡ message_check s bs at → walk_check s 0 bs at ≡ walk_check s 0 (drop n bs) (at + n)
unfolding walk_check
walk_step s [] at n l p e = absurd (omega arith)
walk_step s (b ∷ bs) at zero l p e = absurd (omega arith)
walk_step s (b ∷ bs) at (suc n) l p e =
    ap (λ r. and_then r (λ m. walk_check s (m - 1) bs (at + m))) (sym e) ∙ (ap (λ m. walk_check s m bs (at + suc n)) (sub-one (suc n)) ∙ walk_skip s n bs (at + suc n))

pub walk_stop : (s : Sheet) (bs : List ℕ) (at : ℕ) (e : FrameFault) → 0 < length bs → Err e ≡ message_check s bs at → walk_check s 0 bs at ≡ Err e
unfolding walk_check
walk_stop s [] at e l m = absurd (omega arith)
walk_stop s (b ∷ bs) at e l m = ap (λ r. and_then r (λ m. walk_check s (m - 1) bs (at + m))) (sym m)

pub walk_end : (s : Sheet) (bs : List ℕ) (at : ℕ) → length bs ≤ 0 → walk_check s 0 bs at ≡ Ok tt
unfolding walk_check
walk_end s [] at l = refl
walk_end s (b ∷ bs) at l = absurd (omega arith)
