-- A call is taken by the receiver exactly when reach takes it.
use Rattle.std.proofs.Common.{◌≡◌, ℕ, ◌+◌, Bool, true, false, cond, not, ◌&&◌, eqb, ltb, leb, List, is_ok, Some, None, Option, Ok, Err, Result, sym, refl, ap, ◌∙◌, ap₂, arith}
use Rattle.std.proofs.lemmas.Bool.{ltb-true, ltb-false, leb-true, leb-false, eqb-true, eqb-false, lt-ltb, le-ltb, lt-leb, le-leb}
use Rattle.packet.specs.declared.fault.FrameFault.{FrameFault}
use Rattle.packet.specs.Rules.{and_then, packet_check, packet_head}
use Rattle.recovery.specs.declared.answers.Incremental.TheVariants.{Repeat, Taken}
use Rattle.recovery.specs.declared.fault.StreamFault.TheVariants.{Channel, Version, Number, Late, Join, Shelf}
use Rattle.recovery.specs.declared.marks.Followed.{Followed}
use Rattle.recovery.specs.Shelf.{is_there}
use Rattle.recovery.specs.State.{Opening, Plain}
use Rattle.recovery.specs.Answers.{refuses, framed, lawful_version, incremental_answer, snapshot_check, again, is_next}
use Rattle.recovery.specs.Updates.{when_taken, when_ok}
use Rattle.recovery.specs.Extents.{Reach, seen, due}
use Rattle.recovery.specs.Reach.{takes_packet, takes_snapshot}
use Rattle.recovery.proofs.Basics.{by_test, ltb_not}
use Rattle.recovery.proofs.Kin.{place_of}

leb_not : (a b : ℕ) → leb a b ≡ not (ltb b a)
leb_not a b = by_test (leb a b) (λ t. t ∙ sym (ap not (le-ltb b a (leb-true a b t)))) (λ t. t ∙ sym (ap not (lt-ltb b a (leb-false a b t))))

some_not : (n : ℕ) → ltb 0 n ≡ not (eqb n 0)
some_not n = by_test (eqb n 0) (λ t. ap (ltb 0) (eqb-true n 0 t) ∙ sym (ap not t)) (λ t. lt-ltb 0 n (let d = eqb-false n 0 t in omega (arith, d)) ∙ sym (ap not t))

lawful-same : (v : ℕ) → lawful_version v ≡ (leb 1 v && leb v 65534)
lawful-same v = ap₂ (λ a b. a && b)
    (by_test (ltb 0 v) (λ t. t ∙ sym (le-leb 1 v (let l = ltb-true 0 v t in omega (arith, l)))) (λ t. t ∙ sym (lt-leb 1 v (let l = ltb-false 0 v t in omega (arith, l)))))
    (by_test (ltb v 65535) (λ t. t ∙ sym (le-leb v 65534 (let l = ltb-true v 65535 t in omega (arith, l)))) (λ t. t ∙ sym (lt-leb v 65534 (let l = ltb-false v 65535 t in omega (arith, l)))))

-- the chain of checks, with what each test comes to
packet_chain : {A : Type 0} (t s : A) (room : ℕ) (short : Bool) (x : Result (Unit {0}) FrameFault) (ours version zero late known : Bool)
    → when_taken (and_then (and_then (and_then (refuses short (Shelf room)) (λ _. framed x)) (λ _. and_then (refuses (not ours) Channel) (λ _. and_then (refuses (not version) Version) (λ _. and_then (refuses zero Number) (λ _. refuses late Late))))) (λ _. Ok (cond known Repeat Taken))) t s
    ≡ cond ((not short && (is_ok x && ours)) && (version && (not zero && (not late && not known)))) t s
packet_chain t s room true x ours version zero late known = refl
packet_chain t s room false (Err e) ours version zero late known = refl
packet_chain t s room false (Ok u) false version zero late known = refl
packet_chain t s room false (Ok u) true false zero late known = refl
packet_chain t s room false (Ok u) true true true late known = refl
packet_chain t s room false (Ok u) true true false true known = refl
packet_chain t s room false (Ok u) true true false false true = refl
packet_chain t s room false (Ok u) true true false false false = refl

pub packet_verdict : {A : Type 0} (t s : A) (o : Opening) (p : Plain) (r : Reach) (room : ℕ) (bytes : List ℕ) → r.heard ≡ p.heard → r.there (packet_head bytes).number ≡ is_there (p.shelf (packet_head bytes).number)
    → when_taken (incremental_answer o p room bytes) t s ≡ cond (takes_packet o r room bytes) t s
packet_verdict t s o p r room bytes h th =
    packet_chain t s room (ltb room 44800) (packet_check o.sheet bytes) (eqb (packet_head bytes).channel o.channel) (eqb (packet_head bytes).version o.version)
    (eqb (packet_head bytes).number 0) (leb ((packet_head bytes).number + 32) p.heard) (is_there (p.shelf (packet_head bytes).number))
    ∙ sym (rw (h, th, leb_not 44800 room, some_not (packet_head bytes).number, ltb_not p.heard ((packet_head bytes).number + 32)))

snapshot_chain : {A : Type 0} (t s : A) (room : ℕ) (present short : Bool) (x : Result (Unit {0}) FrameFault) (ours version zero known : Bool)
    → when_ok (and_then (refuses (not present) Join) (λ _. and_then (and_then (refuses short (Shelf room)) (λ _. framed x)) (λ _. and_then (refuses (not ours) Channel) (λ _. and_then (refuses (not version) Version) (λ _. refuses zero Number))))) (cond known s t) s
    ≡ cond (present && ((not short && (is_ok x && ours)) && (version && (not zero && not known)))) t s
snapshot_chain t s room false short x ours version zero known = refl
snapshot_chain t s room true true x ours version zero known = refl
snapshot_chain t s room true false (Err e) ours version zero known = refl
snapshot_chain t s room true false (Ok u) false version zero known = refl
snapshot_chain t s room true false (Ok u) true false zero known = refl
snapshot_chain t s room true false (Ok u) true true true known = refl
snapshot_chain t s room true false (Ok u) true true false true = refl
snapshot_chain t s room true false (Ok u) true true false false = refl

seen-again : (f : Option Followed) (l n : ℕ) → seen (place_of f) l n ≡ again f l n
seen-again None l n = refl
seen-again (Some f) l n = refl

pub due_next : (f : Option Followed) (l n : ℕ) → due (place_of f) l n ≡ is_next f l n
due_next None l n = refl
due_next (Some f) l n = refl

pub snapshot_verdict : {A : Type 0} (t s : A) (o : Opening) (p : Plain) (r : Reach) (j room : ℕ) (bytes : List ℕ) → r.joined ≡ p.joined → r.place ≡ place_of p.followed
    → when_ok (snapshot_check o p j room bytes) (cond (again p.followed (packet_head bytes).version (packet_head bytes).number) s t) s ≡ cond (takes_snapshot o r j room bytes) t s
snapshot_verdict t s o p r j room bytes jo pl =
    snapshot_chain t s room (p.joined && eqb j o.own) (ltb room 44800) (packet_check o.sheet bytes) (eqb (packet_head bytes).channel o.channel) (lawful_version (packet_head bytes).version)
    (eqb (packet_head bytes).number 0) (again p.followed (packet_head bytes).version (packet_head bytes).number)
    ∙ sym (rw (jo, pl, leb_not 44800 room, some_not (packet_head bytes).number, ← (lawful-same (packet_head bytes).version), seen-again p.followed (packet_head bytes).version (packet_head bytes).number))

pub join_verdict : {A : Type 0} (t s : A) (b : Bool) → when_ok (refuses b Join) t s ≡ cond b s t
join_verdict t s true = refl
join_verdict t s false = refl

pub leave_verdict : {A : Type 0} (t s : A) (b : Bool) → when_ok (refuses (not b) Join) t s ≡ cond b t s
leave_verdict t s true = refl
leave_verdict t s false = refl
