-- What bytes that keep the rules have at their front.
use Rattle.std.proofs.Common.{◌≡◌, ℕ, ◌+◌, ◌<◌, ◌≤◌, true, List, length, take, drop, is_ok, Ok, Err, vec_items, Result, sym, refl, ap, ◌∙◌, subst, arith}
use Rattle.std.proofs.lemmas.Bool.{true≢false}
use Rattle.std.proofs.lemmas.Bool.Decides.{nat_tests}
use Rattle.layout.specs.Wire.{le_at}
use Rattle.layout.specs.Lawful.{find}
use Rattle.layout.specs.declared.sheet.Sheet.{Sheet}
use Rattle.packet.specs.declared.fault.FrameFault.{FrameFault}
use Rattle.packet.specs.declared.head.MessageHead.{MessageHead}
use Rattle.packet.specs.Rules.{and_then, message_head, head_check, layout_check, message_check, walk_check, packet_check}
use Rattle.packet.proofs.Walks.{walk_step, walk_stop}

pub ok_unit : {E : Type 0} (r : Result (Unit {0}) E) → is_ok r ≡ true → r ≡ Ok tt
ok_unit (Ok tt) e = refl
ok_unit (Err x) e = absurd (true≢false (sym e))

-- a message whose header keeps the rules is judged by its layout
pub message_by_head : (s : Sheet) (bs : List ℕ) (at : ℕ) (h : MessageHead) → is_ok (head_check bs at) ≡ true → h ≡ message_head bs
    → message_check s bs at ≡ and_then (layout_check (find (vec_items s.templates) h.template) (take h.length bs) h.block at) (λ _. Ok h.length)
message_by_head s bs at h a e =
    ap (λ q. and_then q (λ _. and_then (layout_check (find (vec_items s.templates) (le_at bs 6 2)) (take (le_at bs 0 2) bs) (le_at bs 4 2) at) (λ _. Ok (le_at bs 0 2)))) (ok_unit (head_check bs at) a)
    ∙ ap (λ x. and_then (layout_check (find (vec_items s.templates) x.template) (take x.length bs) x.block at) (λ _. Ok x.length)) (sym e)

then_ok : {A B E : Type 0} (r : Result A E) (f : A → Result B E) (y : B) → Ok y ≡ and_then r f → (x : A) × (Ok x ≡ r) × (Ok y ≡ f x)
then_ok (Ok x) f y e = (x, refl, e)
then_ok (Err d) f y e = let z : ◌≡◌ {A = ℕ} 0 1 = cc in absurd (omega arith)

head_ok : (bs : List ℕ) (at : ℕ) → Ok tt ≡ head_check bs at → (12 ≤ length bs) × (12 ≤ le_at bs 0 2) × (le_at bs 0 2 ≤ length bs)
head_ok bs at e = (grind (arith, nat_tests), grind (arith, nat_tests), grind (arith, nat_tests))

pub message_ok : (s : Sheet) (bs : List ℕ) (at n : ℕ) → Ok n ≡ message_check s bs at → (n ≡ le_at bs 0 2) × (12 ≤ length bs) × (12 ≤ le_at bs 0 2) × (le_at bs 0 2 ≤ length bs)
message_ok s bs at n e =
    let p = then_ok (head_check bs at) (λ _. and_then (layout_check (find (vec_items s.templates) (le_at bs 6 2)) (take (le_at bs 0 2) bs) (le_at bs 4 2) at) (λ _. Ok (le_at bs 0 2))) n e in
    let q = then_ok (layout_check (find (vec_items s.templates) (le_at bs 6 2)) (take (le_at bs 0 2) bs) (le_at bs 4 2) at) (λ _. Ok (le_at bs 0 2)) n p.2 in
    let k = head_ok bs at p.1 in
    let same : n ≡ le_at bs 0 2 = cc q.2 in
    (same, k.0, k.1, k.2)

-- the front of bytes that keep the rules
pub record Front (s : Sheet) (bs : List ℕ) (at : ℕ) : Type 0 where
  pub long : 12 ≤ length bs
  pub least : 12 ≤ le_at bs 0 2
  pub within : le_at bs 0 2 ≤ length bs
  pub onward : is_ok (walk_check s 0 (drop (le_at bs 0 2) bs) (at + le_at bs 0 2)) ≡ true

front_by : (s : Sheet) (bs : List ℕ) (at : ℕ) (r : Result ℕ FrameFault) → r ≡ message_check s bs at → 0 < length bs → is_ok (walk_check s 0 bs at) ≡ true → Front s bs at
front_by s bs at (Err e) q l ok = absurd (true≢false (sym ok ∙ ap is_ok (walk_stop s bs at e l q)))
front_by s bs at (Ok n) q l ok =
    let m = message_ok s bs at n q in
    let step = walk_step s bs at n l (omega arith) q in
    record {
      long = m.1;
      least = m.2;
      within = m.3;
      onward = subst (λ k. is_ok (walk_check s 0 (drop k bs) (at + k)) ≡ true) m.0 (sym (ap is_ok step) ∙ ok);
    }

pub front : (s : Sheet) (bs : List ℕ) (at : ℕ) → 0 < length bs → is_ok (walk_check s 0 bs at) ≡ true → Front s bs at
front s bs at l ok = front_by s bs at (message_check s bs at) refl l ok

pub packet_ok : (s : Sheet) (bs : List ℕ) → is_ok (packet_check s bs) ≡ true → (16 ≤ length bs) × (length bs ≤ 1400) × (is_ok (walk_check s 0 (drop 16 bs) 16) ≡ true)
packet_ok s bs e = (grind (arith, nat_tests), grind (arith, nat_tests), grind (arith, nat_tests))
