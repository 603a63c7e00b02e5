-- The entries of a group, one by one.
use Rattle.std.proofs.Common.{◌≡◌, ℕ, zero, suc, ◌+◌, ◌-◌, ◌<◌, ◌≤◌, min, List, ◌∷◌, length, take, drop, Some, sym, ap, ◌∙◌, ⊎_elim, sub-one, arith}
use Rattle.std.proofs.lemmas.List.{take_rest, take_all, drop_all}
use Rattle.std.proofs.lemmas.Bool.{cases_lt, le-ltb, cond-false}
use Rattle.layout.specs.declared.kinds.EntriesLayout.{EntriesLayout}
use Rattle.layout.specs.Wire.{le_at, bytes_of, number_at}
use Rattle.packet.specs.declared.head.MessageHead.{MessageHead}
use Rattle.packet.specs.Rules.{message_head}
use Rattle.message.specs.Meaning.{also, root_block, parts, or_none, entry_parts}

take_min : (n : ℕ) (bs : List ℕ) → take (min n (length bs)) bs ≡ take n bs
take_min n bs =
    ⊎_elim
    (λ h. ap (λ k. take k bs) (omega arith))
    (λ h. take_all (min n (length bs)) bs (omega arith) ∙ sym (take_all n bs h))
    (cases_lt n (length bs))

drop_min : (n : ℕ) (bs : List ℕ) → drop (min n (length bs)) bs ≡ drop n bs
drop_min n bs =
    ⊎_elim
    (λ h. ap (λ k. drop k bs) (omega arith))
    (λ h. drop_all (min n (length bs)) bs (omega arith) ∙ sym (drop_all n bs h))
    (cases_lt n (length bs))

pub parts_next : (size n k : ℕ) (bs entry after : List ℕ) → 0 < n → k ≡ min size (length bs) → entry ≡ take k bs → after ≡ drop k bs → parts size n bs ≡ entry ∷ parts size (n - 1) after
parts_next size zero k bs entry after l m e f = absurd (omega arith)
parts_next size (suc n) k bs entry after l m e f =
    let front : take size bs ≡ entry = sym (e ∙ (ap (λ j. take j bs) m ∙ take_min size bs)) in
    let back : drop size bs ≡ after = sym (f ∙ (ap (λ j. drop j bs) m ∙ drop_min size bs)) in
    ap (λ x. x ∷ parts size n (drop size bs)) front ∙ (ap (λ x. entry ∷ parts size n x) back ∙ ap (λ j. entry ∷ parts size j after) (sym (sub-one (suc n))))

pub group_of : (l : EntriesLayout) (m : List ℕ) (h : MessageHead) (size left w : ℕ) → 12 ≤ length m → h ≡ message_head m → Some size ≡ number_at m (12 + h.block) 2 → Some left ≡ number_at m (12 + h.block + 2) (bytes_of l.count) → w ≡ bytes_of l.count
    → parts size left (take (length m - (12 + h.block + 2 + w)) (drop (12 + h.block + 2 + w) m)) ≡ entry_parts l m
group_of l m h size left w long e a b d =
    let c : h.block ≡ le_at m 4 2 = ap (λ x. x.block) e in
    let r0 : root_block m ≡ Some (drop 12 m) = cond-false _ _ _ (le-ltb (length m) 12 long) in
    let r1 : number_at m (12 + le_at m 4 2) 2 ≡ Some size = ap (λ k. number_at m (12 + k) 2) (sym c) ∙ sym a in
    let r2 : number_at m (12 + le_at m 4 2 + 2) (bytes_of l.count) ≡ Some left = ap (λ k. number_at m (12 + k + 2) (bytes_of l.count)) (sym c) ∙ sym b in
    let tail : take (length m - (12 + h.block + 2 + w)) (drop (12 + h.block + 2 + w) m) ≡ drop (12 + le_at m 4 2 + 2 + bytes_of l.count) m = take_rest m (12 + h.block + 2 + w) ∙ (ap (λ k. drop (12 + k + 2 + w) m) c ∙ ap (λ k. drop (12 + le_at m 4 2 + 2 + k) m) d) in
    ap (λ x. parts size left x) tail
    ∙ sym (
    ap (λ r. or_none (also r (λ _. also (number_at m (12 + le_at m 4 2) 2) (λ s. also (number_at m (12 + le_at m 4 2 + 2) (bytes_of l.count)) (λ n. Some (parts s n (drop (12 + le_at m 4 2 + 2 + bytes_of l.count) m))))))) r0
    ∙ (ap (λ r. or_none (also r (λ s. also (number_at m (12 + le_at m 4 2 + 2) (bytes_of l.count)) (λ n. Some (parts s n (drop (12 + le_at m 4 2 + 2 + bytes_of l.count) m)))))) r1
    ∙ ap (λ r. or_none (also r (λ n. Some (parts size n (drop (12 + le_at m 4 2 + 2 + bytes_of l.count) m))))) r2)
    )
