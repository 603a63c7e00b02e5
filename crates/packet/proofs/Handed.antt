-- The messages that a walk hands out, one by one.
use Rattle.std.proofs.Common.{◌≡◌, ℕ, zero, suc, ◌-◌, ◌<◌, ◌≤◌, true, List, [], ◌∷◌, length, take, drop, is_ok, Some, None, vec_items, Option, sym, refl, ap, ◌∙◌, ⊎_elim, sub-one, arith, MatchOption}
use Rattle.std.proofs.lemmas.Bool.{cases_lt}
use Rattle.layout.specs.Wire.{le_at}
use Rattle.layout.specs.Lawful.{find}
use Rattle.layout.specs.declared.kinds.Layout.{Layout}
use Rattle.layout.specs.declared.sheet.Sheet.{Sheet}
use Rattle.packet.specs.declared.head.MessageHead.{MessageHead}
use Rattle.message.specs.Meaning.{Msg}
use Rattle.packet.specs.Rules.{message_head, walk_check, messages_from, msg_at}
use Rattle.packet.proofs.Steps.{front}

messages_skip : (s : Sheet) (k : ℕ) (bs : List ℕ) → messages_from s k bs ≡ messages_from s 0 (drop k bs)
unfolding messages_from
messages_skip s zero [] = refl
messages_skip s (suc k) [] = refl
messages_skip s zero (b ∷ bs) = refl
messages_skip s (suc k) (b ∷ bs) = messages_skip s k bs

messages_by : (s : Sheet) (b : ℕ) (bs : List ℕ) (n : ℕ) → 0 < n → messages_from s (n - 1) bs ≡ messages_from s 0 (drop n (b ∷ bs))
messages_by s b bs zero l = absurd (omega arith)
messages_by s b bs (suc n) l = ap (λ k. messages_from s k bs) (sub-one (suc n)) ∙ messages_skip s n bs

pub messages_next : (s : Sheet) (bs : List ℕ) → 0 < length bs → 0 < le_at bs 0 2 → messages_from s 0 bs ≡ msg_at s bs ∷ messages_from s 0 (drop (le_at bs 0 2) bs)
unfolding messages_from
messages_next s [] l p = absurd (omega arith)
messages_next s (b ∷ bs) l p = ap (λ ms. msg_at s (b ∷ bs) ∷ ms) (messages_by s b bs (le_at (b ∷ bs) 0 2) p)

pub messages-end : (s : Sheet) (bs : List ℕ) → length bs ≤ 0 → messages_from s 0 bs ≡ []
unfolding messages_from
messages-end s [] l = refl
messages-end s (b ∷ bs) l = absurd (omega arith)

pub short-end : (s : Sheet) (bs : List ℕ) (at : ℕ) → is_ok (walk_check s 0 bs at) ≡ true → length bs < 12 → messages_from s 0 bs ≡ []
short-end s bs at ok l =
    ⊎_elim (λ h. absurd (let f = front s bs at h ok in omega (arith, f.long))) (λ h. messages-end s bs h) (cases_lt 0 (length bs))

pub same_layout : {R : Type 0} (f : R → Layout) (o : Option R) (a b : Option Layout) → MatchOption o (a ≡ None) (λ l. a ≡ Some (f l)) → MatchOption o (b ≡ None) (λ l. b ≡ Some (f l)) → a ≡ b
same_layout f None a b p q = p ∙ sym q
same_layout f (Some x) a b p q = p ∙ sym q

-- the message at the front is the one that the header, the sheet and the part at hand make
pub handed : (s : Sheet) (bs : List ℕ) (at : ℕ) (h : MessageHead) (m : Msg) (part after : List ℕ) → is_ok (walk_check s 0 bs at) ≡ true → 12 ≤ length bs → h ≡ message_head bs → part ≡ take h.length bs → after ≡ drop h.length bs → m.layout ≡ find (vec_items s.templates) h.template → m.bytes ≡ part → messages_from s 0 bs ≡ m ∷ messages_from s 0 after
handed s bs at h m part after ok l e p a f v =
    let k = front s bs at (omega arith) ok in
    let n : h.length ≡ le_at bs 0 2 = ap (λ x. x.length) e in
    let i : h.template ≡ le_at bs 6 2 = ap (λ x. x.template) e in
    let by : m.layout ≡ (msg_at s bs).layout = cc in
    let with : m.bytes ≡ (msg_at s bs).bytes = cc in
    let same : m ≡ msg_at s bs = ap (λ o. record { layout = o; bytes = m.bytes }) by ∙ ap (λ x. record { layout = (msg_at s bs).layout; bytes = x }) with in
    let rest : after ≡ drop (le_at bs 0 2) bs = cc in
    let next = messages_next s bs (omega arith) (omega (arith, k.least)) in
    cc

pub messages-few : (s : Sheet) (k : ℕ) (bs : List ℕ) → length (messages_from s k bs) ≤ length bs
unfolding messages_from
messages-few s k [] = omega arith
messages-few s (suc k) (b ∷ bs) = omega (arith, messages-few s k bs)
messages-few s zero (b ∷ bs) = omega (arith, messages-few s (le_at (b ∷ bs) 0 2 - 1) bs)
