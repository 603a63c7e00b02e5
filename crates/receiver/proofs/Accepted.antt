-- What an accepted call tells of its packet.
use Rattle.std.proofs.Common.{◌≡◌, ℕ, ◌+◌, ◌<◌, ◌≤◌, Bool, true, false, cond, not, ◌||◌, eqb, ltb, leb, List, length, is_ok, Ok, Err, Result, sym, refl, ap, ◌∙◌, arith}
use Rattle.std.proofs.lemmas.Bool.{ltb-false, leb-false, eqb-false, or_parts}
use Rattle.layout.specs.declared.sheet.Sheet.{Sheet}
use Rattle.packet.specs.declared.fault.FrameFault.{FrameFault}
use Rattle.packet.specs.Rules.{and_then, packet_check, packet_head}
use Rattle.recovery.specs.declared.answers.Incremental.{Incremental}
use Rattle.recovery.specs.declared.answers.Incremental.TheVariants.{Repeat, Taken}
use Rattle.recovery.specs.declared.fault.StreamFault.{StreamFault}
use Rattle.recovery.specs.Shelf.{shelved, is_there, part_of, shelf_of}
use Rattle.recovery.specs.State.{Opening, Plain}
use Rattle.recovery.specs.Answers.{refuses, shelf_check, framed, bytes_check, incremental_rules, incremental_answer}
use Rattle.recovery.specs.Updates.{when_taken}
use Rattle.settling.proofs.Finding.{by_test}
use Rattle.receiver.specs.Judged.{judged}

pub and_ok : {A B E : Type 0} (r : Result A E) (f : A → Result B E) (y : B) → and_then r f ≡ Ok y → (x : A) × (r ≡ Ok x) × (f x ≡ Ok y)
and_ok (Ok x) f y e = (x, refl, e)
and_ok (Err x) f y e = let z : ◌≡◌ {A = ℕ} 0 1 = cc in absurd (omega arith)

pub refuses_ok : (bad : Bool) (f : StreamFault) (x : Unit {0}) → refuses bad f ≡ Ok x → bad ≡ false
refuses_ok true f x e = let z : ◌≡◌ {A = ℕ} 0 1 = cc in absurd (omega arith)
refuses_ok false f x e = refl

pub framed_ok : (r : Result (Unit {0}) FrameFault) (x : Unit {0}) → framed r ≡ Ok x → is_ok r ≡ true
framed_ok (Ok x) y e = refl
framed_ok (Err x) y e = let z : ◌≡◌ {A = ℕ} 0 1 = cc in absurd (omega arith)

-- a packet has at most 1,400 bytes
pub short : (sheet : Sheet) (bytes : List ℕ) → is_ok (packet_check sheet bytes) ≡ true → length bytes ≤ 1400
short sheet bytes e = by_test (ltb (length bytes) 16 || ltb 1400 (length bytes))
    (λ b. let f = rw b at e in let z : ◌≡◌ {A = ℕ} 0 1 = cc in absurd (omega arith))
    (λ b. ltb-false 1400 (length bytes) (or_parts _ _ b).1)

pub record Accepted (o : Opening) (heard room : ℕ) (bytes : List ℕ) : Type 0 where
  pub long : 44800 ≤ room
  pub whole : is_ok (packet_check o.sheet bytes) ≡ true
  pub small : length bytes ≤ 1400
  pub counted : 0 < (packet_head bytes).number
  pub near : heard < (packet_head bytes).number + 32

pub bytes_ok : (o : Opening) (room : ℕ) (bytes : List ℕ) (x : Unit {0}) → bytes_check o room bytes ≡ Ok x → (44800 ≤ room) × (is_ok (packet_check o.sheet bytes) ≡ true)
bytes_ok o room bytes x e =
    let a = and_ok (shelf_check room) (λ _. framed (packet_check o.sheet bytes)) x e in
    (ltb-false room 44800 (refuses_ok (ltb room 44800) _ _ a.1), framed_ok (packet_check o.sheet bytes) x a.2)

pub accepted : (o : Opening) (heard : ℕ) (numbers : List ℕ) (room : ℕ) (bytes : List ℕ) (y : Incremental) → judged o heard numbers room bytes ≡ Ok y → Accepted o heard room bytes
accepted o heard numbers room bytes y e =
    let h = packet_head bytes in
    let a = and_ok (and_then (bytes_check o room bytes) (λ _. incremental_rules o heard h)) (λ _. Ok (cond (shelved heard numbers h.number) Repeat Taken)) y e in
    let b = and_ok (bytes_check o room bytes) (λ _. incremental_rules o heard h) a.0 a.1 in
    let f = bytes_ok o room bytes b.0 b.1 in
    let c = and_ok (refuses (not (eqb h.channel o.channel)) _) _ a.0 b.2 in
    let d = and_ok (refuses (not (eqb h.version o.version)) _) _ a.0 c.2 in
    let g = and_ok (refuses (eqb h.number 0) _) _ a.0 d.2 in
    let p = eqb-false h.number 0 (refuses_ok (eqb h.number 0) _ _ g.1) in
    record {
      long = f.0;
      whole = f.1;
      small = short o.sheet bytes f.1;
      counted = omega arith;
      near = leb-false (h.number + 32) heard (refuses_ok (leb (h.number + 32) heard) _ _ g.2);
    }

-- what lies on the shelf is there
there : (sheet : Sheet) (heard : ℕ) (numbers lengths bytes : List ℕ) (k : ℕ) → is_there (shelf_of sheet heard numbers lengths bytes k) ≡ shelved heard numbers k
there sheet heard numbers lengths bytes k = by_test (shelved heard numbers k)
    (λ e. rw e (by_test (is_ok (packet_check sheet (part_of lengths bytes k))) (λ f. rw f) (λ f. rw f)))
    (λ e. rw e)

-- the answer by the numbers of the shelf's places is the answer by what lies there
pub judges : (o : Opening) (p : Plain) (numbers lengths bytes shelf : List ℕ) (room : ℕ) → p.shelf ≡ shelf_of o.sheet p.heard numbers lengths shelf
    → judged o p.heard numbers room bytes ≡ incremental_answer o p room bytes
judges o p numbers lengths bytes shelf room e =
    let n = (packet_head bytes).number in
    let t : shelved p.heard numbers n ≡ is_there (p.shelf n) = sym (there o.sheet p.heard numbers lengths shelf n) ∙ ap (λ f. is_there (f n)) (sym e) in
    ap (λ b. and_then (and_then (bytes_check o room bytes) (λ _. incremental_rules o p.heard (packet_head bytes))) (λ _. Ok (cond b Repeat Taken))) t

pub taken : {A : Type 0} (r : Result Incremental StreamFault) (t s x : A) → Ok Taken ≡ r → x ≡ t → x ≡ when_taken r t s
taken r t s x e f = f ∙ ap (λ z. when_taken z t s) e
