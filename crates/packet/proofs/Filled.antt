-- The messages of a packet that keeps the rules fill it behind its header.
use Rattle.std.proofs.Common.{◌≡◌, ℕ, zero, suc, ◌+◌, ◌-◌, ◌<◌, true, List, [], ◌∷◌, ◌++◌, take, drop, is_ok, IfOk, Ok, Err, Result, sym, refl, ap, ◌∙◌, subst, sub-one, arith}
use Rattle.std.proofs.lemmas.List.{take-append-drop}
use Rattle.std.proofs.lemmas.Bool.{true≢false}
use Rattle.layout.specs.Wire.{le_at}
use Rattle.layout.specs.declared.sheet.Sheet.{Sheet}
use Rattle.packet.specs.declared.fault.FrameFault.{FrameFault}
use Rattle.packet.specs.Rules.{and_then, message_check, walk_check, packet_check, messages_from, messages, joined}
use Rattle.packet.proofs.Steps.{message_ok, packet_ok}

then_is_ok : {A B E : Type 0} (r : Result A E) (f : A → Result B E) → is_ok (and_then r f) ≡ true → (x : A) × (Ok x ≡ r) × (is_ok (f x) ≡ true)
then_is_ok (Ok x) f e = (x, refl, e)
then_is_ok (Err d) f e = absurd (true≢false (sym e))

split : (n : ℕ) (b : ℕ) (bs : List ℕ) → 0 < n → take n (b ∷ bs) ++ drop (n - 1) bs ≡ b ∷ bs
split zero b bs l = absurd (omega arith)
split (suc n) b bs l = ap (λ k. b ∷ (take n bs ++ drop k bs)) (sub-one (suc n)) ∙ ap (λ x. b ∷ x) (take-append-drop n bs)

filled_from : (s : Sheet) (k : ℕ) (bs : List ℕ) (at : ℕ) → is_ok (walk_check s k bs at) ≡ true → joined (messages_from s k bs) ≡ drop k bs
unfolding walk_check messages_from
filled_from s zero [] at ok = refl
filled_from s (suc k) [] at ok = refl
filled_from s (suc k) (b ∷ bs) at ok = filled_from s k bs at ok
filled_from s zero (b ∷ bs) at ok =
    let p = then_is_ok (message_check s (b ∷ bs) at) (λ n. walk_check s (n - 1) bs (at + n)) ok in
    let m = message_ok s (b ∷ bs) at p.0 p.1 in
    let n = le_at (b ∷ bs) 0 2 in
    let onward : is_ok (walk_check s (n - 1) bs (at + n)) ≡ true = subst (λ k. is_ok (walk_check s (k - 1) bs (at + k)) ≡ true) m.0 p.2 in
    ap (λ x. take n (b ∷ bs) ++ x) (filled_from s (n - 1) bs (at + n) onward) ∙ split n b bs (omega arith)

pub filled : (s : Sheet) (bs : List ℕ) (r : Result (Unit {0}) FrameFault) → r ≡ packet_check s bs → IfOk r (λ _. joined (messages s bs) ≡ drop 16 bs)
filled s bs (Err e) q = tt
filled s bs (Ok x) q = filled_from s 0 (drop 16 bs) 16 (packet_ok s bs (sym (ap is_ok q))).2
