-- Reach from call to call: what is adopted stays within reach, and comes to the highest heard once every packet since is there.
use Rattle.std.proofs.Common.{◌≡◌, ℕ, suc, ◌+◌, ◌<◌, ◌≤◌, true, false, cond, ◌&&◌, eqb, ltb, ◌⊎◌, List, [], ◌∷◌, ◌++◌, Some, None, Option, sym, refl, ap, ◌∙◌, subst, inl, inr, arith}
use Rattle.std.proofs.lemmas.Bool.{cond_both, ltb-true, ltb-false, and_parts, true≢false}
use Rattle.packet.specs.Rules.{packet_head, messages}
use Rattle.store.specs.Kind.{Kind}
use Rattle.recovery.specs.Reading.{Event, opens, closes, adds}
use Rattle.recovery.specs.State.{Opening, watched}
use Rattle.recovery.specs.Log.{Adoption}
use Rattle.recovery.specs.Calls.{Call, incremental, join, leave, snapshot, question}
use Rattle.recovery.specs.Publisher.{telling}
use Rattle.recovery.specs.Extents.{upto, Parts, Reach, due, behind, of_parts, with_parts}
use Rattle.recovery.specs.Reach.{left, news, caught, judged, tell, tell_all, placed, takes_packet, takes_snapshot, sound, reach_step, reach_run}
use Rattle.recovery.specs.Guarantee.{Logged}
use Rattle.recovery.proofs.Basics.{cond_two, by_test}
use Rattle.recovery.proofs.Course.{Settled, Goes, Moves, goes_on_lem, still, caught-moves, caught_at, packet_moves, packet_there}

logged_either : (xs ys : List Adoption) (i n : ℕ) → Logged (xs ++ ys) i n → Logged xs i n ⊎ Logged ys i n
logged_either [] ys i n l = inr l
logged_either (x ∷ xs) ys i n l = elim l [ inl e ↦ inl (inl e) | inr m ↦ elim (logged_either xs ys i n m) [ inl a ↦ inl (inr a) | inr b ↦ inr b ] ]

-- a step of reach: it moves, and what it adopts has its instrument from there on
pub record Decision (r r' : Reach) (log : List Adoption) : Type 0 where
  pub moves : Moves r r'
  pub logged : (i n : ℕ) → Logged log i n → (a : ℕ) × (r'.extent i ≡ upto a) × (n ≤ a)

-- somewhere on the way from r to r' the instrument i was settled at a number from n on
pub record Midway (r r' : Reach) (i n : ℕ) : Type 0 where
  pub mid : Reach
  pub mid_settled : Settled mid
  pub before : Goes r mid
  pub beyond : Goes mid r'
  pub point : (a : ℕ) × (mid.extent i ≡ upto a) × (n ≤ a)

pub record Walked (r r' : Reach) (log : List Adoption) : Type 0 where
  pub moves : Moves r r'
  pub midway : (i n : ℕ) → Logged log i n → Midway r r' i n

module _ {V O : Type 0} (K : Kind V O) (o : Opening) where
  abbrev pub judged_log : Parts → Reach → List Adoption
  judged_log g r = cond (K.whole (left K o g.header g.pieces)) (cond (news K o g r) (record { security = g.of; number = g.header.last } ∷ []) []) []

  abbrev pub tell_log : Event → Reach → List Adoption
  tell_log (opens i h) r = cond (watched o i) (judged_log (record { of = i; header = h; pieces = [] }) r) []
  tell_log closes r = []
  tell_log (adds i p) r = of_parts r.parts [] (λ g. cond (eqb i g.of) (judged_log (record { of = g.of; header = g.header; pieces = p ∷ g.pieces }) r) [])

  unfoldable pub tell_logs : List Event → Reach → List Adoption
  tell_logs [] r = []
  tell_logs (e ∷ es) r = tell_log e r ++ tell_logs es (tell K o e r)

  quiet : (r : Reach) (p : Option Parts) → Settled r → Decision r (with_parts p r) []
  quiet r p s = record { moves = still r r.joined r.place p s; logged = λ i n l. absurd l }

  judged_ok : (g : Parts) (r : Reach) → Settled r → Decision r (judged K o g r) (judged_log g r)
  judged_ok g r s = cond_two (Decision r) (K.whole (left K o g.header g.pieces)) _ refl _ _ _ _
      (λ _. cond_two (Decision r) (news K o g r) _ refl _ _ _ _ (λ t. catch t) (λ _. quiet r None s))
      (λ _. quiet r (Some g) s)
    where
      catch : news K o g r ≡ true → Decision r (caught K o g (with_parts None r)) (record { security = g.of; number = g.header.last } ∷ [])
      catch t =
          let a = and_parts (ltb r.heard (g.header.last + 33)) (behind (r.extent g.of) g.header.last) t in
          let lt = ltb-true r.heard (g.header.last + 33) a.0 in
          record {
            moves = caught-moves r (with_parts None r) s g.of g.header.last lt a.1;
            logged = λ i n l. elim l [
              | inl x ↦ let c = caught_at r (with_parts None r) s g.of g.header.last lt a.1 in
                  (c.0, subst (λ j. (caught K o g (with_parts None r)).extent j ≡ upto c.0) x.0 c.1, omega (arith, x.1, c.2))
              | inr nil ↦ absurd nil
            ];
          }

  tell_ok : (e : Event) (r : Reach) → Settled r → Decision r (tell K o e r) (tell_log e r)
  tell_ok (opens i h) r s = cond_two (Decision r) (watched o i) _ refl _ _ _ _ (λ _. judged_ok (record { of = i; header = h; pieces = [] }) r s) (λ _. quiet r None s)
  tell_ok closes r s = quiet r None s
  tell_ok (adds i p) r s = go r.parts
    where
      go : (x : Option Parts) → Decision r
          (of_parts x r (λ g. cond (eqb i g.of) (judged K o (record { of = g.of; header = g.header; pieces = p ∷ g.pieces }) r) r))
          (of_parts x [] (λ g. cond (eqb i g.of) (judged_log (record { of = g.of; header = g.header; pieces = p ∷ g.pieces }) r) []))
      go None = quiet r r.parts s
      go (Some g) = cond_two (Decision r) (eqb i g.of) _ refl _ _ _ _ (λ _. judged_ok (record { of = g.of; header = g.header; pieces = p ∷ g.pieces }) r s) (λ _. quiet r r.parts s)

  tell_all_ok : (es : List Event) (r : Reach) → Settled r → Walked r (tell_all K o es r) (tell_logs es r)
  unfolding tell_all tell_logs
  tell_all_ok [] r s = record { moves = still r r.joined r.place r.parts s; midway = λ i n l. absurd l }
  tell_all_ok (e ∷ es) r s =
      let d = tell_ok e r s in
      let w = tell_all_ok es (tell K o e r) d.moves.settled in
      record {
        moves = record { settled = w.moves.settled; goes = goes_on_lem d.moves.goes w.moves.goes };
        midway = λ i n l. elim (logged_either (tell_log e r) (tell_logs es (tell K o e r)) i n l) [
          | inl x ↦ record { mid = tell K o e r; mid_settled = d.moves.settled; before = d.moves.goes; beyond = w.moves.goes; point = d.logged i n x }
          | inr y ↦ let m = w.midway i n y in record { mid = m.mid; mid_settled = m.mid_settled; before = goes_on_lem d.moves.goes m.before; beyond = m.beyond; point = m.point }
        ];
      }

  placed_ok : (bytes : List ℕ) (r : Reach) → Settled r → Moves r (placed K o bytes r)
  placed_ok bytes r s = still r r.joined _ (cond (due r.place (packet_head bytes).version (packet_head bytes).number) r.parts None) s

  pub snapshot_mid : (bytes : List ℕ) (r : Reach) → Settled r → (i n : ℕ) → Logged (tell_logs (telling (messages o.sheet bytes)) (placed K o bytes r)) i n
      → Midway r (tell_all K o (telling (messages o.sheet bytes)) (placed K o bytes r)) i n
  snapshot_mid bytes r s i n lg =
      let t = placed_ok bytes r s in
      let x = (tell_all_ok (telling (messages o.sheet bytes)) (placed K o bytes r) t.settled).midway i n lg in
      record { mid = x.mid; mid_settled = x.mid_settled; before = goes_on_lem t.goes x.before; beyond = x.beyond; point = x.point }

  same : (r : Reach) → Settled r → Moves r r
  same r s = still r r.joined r.place r.parts s

  pub step-moves : (c : Call) (r : Reach) → Settled r → Moves r (reach_step K o r c)
  step-moves (incremental room bytes) r s = cond_both (takes_packet o r room bytes) _ _ (Moves r) (λ _. packet_moves r s (packet_head bytes).number) (λ _. same r s)
  step-moves join r s = cond_both r.joined _ _ (Moves r) (λ _. same r s) (λ _. still r true r.place r.parts s)
  step-moves (leave j) r s = cond_both (r.joined && eqb j o.own) _ _ (Moves r) (λ _. still r false None None s) (λ _. same r s)
  step-moves (snapshot j room bytes) r s = cond_both (takes_snapshot o r j room bytes) _ _ (Moves r)
      (λ _. let t = placed_ok bytes r s in
      let w = tell_all_ok (telling (messages o.sheet bytes)) (placed K o bytes r) t.settled in
      record { settled = w.moves.settled; goes = goes_on_lem t.goes w.moves.goes })
      (λ _. same r s)
  step-moves (question i) r s = same r s

  -- the call brings packet k, and reach takes it
  abbrev pub TakesNow : Reach → Call → ℕ → Type 0
  TakesNow r (incremental room bytes) k = (takes_packet o r room bytes ≡ true) × ((packet_head bytes).number ≡ k)
  TakesNow r join k = ⊥
  TakesNow r (leave j) k = ⊥
  TakesNow r (snapshot j room bytes) k = ⊥
  TakesNow r (question i) k = ⊥

  abbrev pub TakesIn : Reach → List Call → ℕ → Type 0
  TakesIn r [] k = ⊥
  TakesIn r (c ∷ cs) k = TakesNow r c k ⊎ TakesIn (reach_step K o r c) cs k

  -- a packet that is taken is then at hand, and near
  takes_ok : (c : Call) (r : Reach) (k : ℕ) → TakesNow r c k → ((reach_step K o r c).there k ≡ true) × (r.heard < k + 32) × ((reach_step K o r c).heard < k + 32)
  takes_ok (incremental room bytes) r k t =
      let a = (and_parts (sound o room bytes) _ t.0).1 in let b = (and_parts (eqb (packet_head bytes).version o.version) _ a).1 in
      let c = (and_parts (ltb 0 (packet_head bytes).number) _ b).1 in let d = (and_parts (ltb r.heard ((packet_head bytes).number + 32)) _ c).0 in
      let lt = ltb-true r.heard ((packet_head bytes).number + 32) d in
      rw (t.0, ← t.1) (packet_there r (packet_head bytes).number lt, lt, omega (arith, lt))
  takes_ok join r k t = absurd t
  takes_ok (leave j) r k t = absurd t
  takes_ok (snapshot j room bytes) r k t = absurd t
  takes_ok (question i) r k t = absurd t

  run_up : (cs : List Call) (r : Reach) → Settled r → r.heard ≤ (reach_run K o r cs).heard
  run_up [] r s = omega arith
  run_up (c ∷ cs) r s = let m = step-moves c r s in omega (arith, m.goes.up, run_up cs (reach_step K o r c) m.settled)

  -- what is taken later is not late now
  not_late : (cs : List Call) (r : Reach) (k : ℕ) → Settled r → TakesIn r cs k → r.heard < k + 32
  not_late [] r k s t = absurd t
  not_late (c ∷ cs) r k s t = let m = step-moves c r s in
      elim t [ inl at_once ↦ (takes_ok c r k at_once).1 | inr later ↦ omega (arith, m.goes.up, not_late cs (reach_step K o r c) k m.settled later) ]

  stays : (cs : List Call) (r : Reach) (i a : ℕ) → Settled r → r.extent i ≡ upto a
      → ((k : ℕ) → a < k → k ≤ (reach_run K o r cs).heard → (r.there k ≡ true) ⊎ TakesIn r cs k)
      → (reach_run K o r cs).extent i ≡ upto (reach_run K o r cs).heard
  stays [] r i a s e all = e ∙ ap upto (by_test (ltb a r.heard)
      (λ t. elim (all (suc a) (omega arith) (ltb-true _ _ t)) [ inl u ↦ absurd (true≢false (sym u ∙ (s.close i a e).2)) | inr no_call ↦ absurd no_call ])
      (λ t. omega (arith, (s.close i a e).0, ltb-false _ _ t)))
  stays (c ∷ cs) r i a s e all = elim (m.goes.further i a e) [
    | inl x ↦ stays cs (reach_step K o r c) i x.0 m.settled x.1 (λ k lt le. elim (all k (omega (arith, x.2)) le) [
      | inl u ↦ inl (m.goes.keep k u (omega (arith, (m.settled.close i x.0 x.1).1)))
      | inr t ↦ elim t [ inl at_once ↦ inl (takes_ok c r k at_once).0 | inr later ↦ inr later ]
    ])
    | inr far ↦ absurd (elim (all (suc a) (omega arith) (omega (arith, run_up cs (reach_step K o r c) m.settled))) [
      | inl u ↦ true≢false (sym u ∙ (s.close i a e).2)
      | inr t ↦ elim t [ inl at_once ↦ omega (arith, (takes_ok c r (suc a) at_once).2) | inr later ↦ omega (arith, not_late cs (reach_step K o r c) (suc a) m.settled later) ]
    ])
  ]
    where
      m : Moves r (reach_step K o r c)
      m = step-moves c r s

  pub comes : (r r' : Reach) (cs : List Call) (i n : ℕ) → Settled r' → Midway r r' i n
      → ((k : ℕ) → n < k → k ≤ (reach_run K o r' cs).heard → (r.there k ≡ true) ⊎ TakesIn r' cs k)
      → (reach_run K o r' cs).extent i ≡ upto (reach_run K o r' cs).heard
  comes r r' cs i n s x all = elim (x.beyond.further i a e) [
    | inl y ↦ stays cs r' i y.0 s y.1 (λ k lt le. elim (all k (omega (arith, x.point.2, y.2)) le) [
      | inl u ↦ inl ((goes_on_lem x.before x.beyond).keep k u (omega (arith, (s.close i y.0 y.1).1)))
      | inr later ↦ inr later
    ])
    | inr far ↦ absurd (elim (all (suc a) (omega (arith, x.point.2)) (omega (arith, run_up cs r' s))) [
      | inl u ↦ true≢false (sym (x.before.keep (suc a) u (omega (arith, near.1))) ∙ near.2)
      | inr later ↦ omega (arith, not_late cs r' (suc a) s later)
    ])
  ]
    where
      a : ℕ
      a = x.point.0

      e : x.mid.extent i ≡ upto a
      e = x.point.1

      near : (a ≤ x.mid.heard) × (x.mid.heard < a + 33) × (x.mid.there (suc a) ≡ false)
      near = x.mid_settled.close i a e

  pub run_settled : (cs : List Call) (r : Reach) → Settled r → Settled (reach_run K o r cs)
  run_settled [] r s = s
  run_settled (c ∷ cs) r s = run_settled cs (reach_step K o r c) (step-moves c r s).settled
