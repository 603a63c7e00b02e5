-- What is left behind a front that the code cuts off.
use Rattle.std.proofs.Common.{◌≡◌, ℕ, ◌-◌, min, List, length, take, drop, sym, ap, ◌∙◌, ⊎_elim, arith}
use Rattle.std.proofs.lemmas.List.{take_rest, drop_all}
use Rattle.std.proofs.lemmas.Bool.{cases_lt}

-- a cut at the end of the bytes, or before it
pub drop-least : (bs : List ℕ) (n : ℕ) → drop (min (length bs) n) bs ≡ drop n bs
drop-least bs n =
    ⊎_elim
    (λ h. let e : min (length bs) n ≡ length bs = omega arith in ap (λ k. drop k bs) e ∙ (drop_all (length bs) bs (omega arith) ∙ sym (drop_all n bs (omega arith))))
    (λ h. let e : min (length bs) n ≡ n = omega arith in ap (λ k. drop k bs) e)
    (cases_lt (length bs) n)

-- the part behind that cut, as the checker reads it
pub rest-least : (bs : List ℕ) (m n : ℕ) → m ≡ min (length bs) n → take (length bs - m) (drop m bs) ≡ drop n bs
rest-least bs m n e = take_rest bs m ∙ (ap (λ k. drop k bs) e ∙ drop-least bs n)
