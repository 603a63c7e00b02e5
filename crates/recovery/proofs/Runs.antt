-- Every call keeps receiver and reach together, so every run does.
use Rattle.std.proofs.Common.{◌≡◌, ℕ, zero, suc, ◌+◌, ◌<◌, ◌≤◌, max, Bool, true, false, cond, ◌&&◌, ◌||◌, eqb, ltb, leb, List, [], ◌∷◌, ◌++◌, length, drop, is_ok, Some, None, Option, sym, refl, ap, ◌∙◌, subst, arith}
use Rattle.std.proofs.lemmas.Bool.{eqb-true, lt-ltb, ltb-true, and_parts, false≢true}
use Rattle.message.specs.declared.values.HeaderFields.{HeaderFields}
use Rattle.message.specs.Meaning.{Msg, Part}
use Rattle.packet.specs.Rules.{packet_check, packet_head, messages}
use Rattle.store.specs.Kind.{Kind, Model}
use Rattle.store.specs.Law.{ImageLaw}
use Rattle.recovery.specs.declared.marks.Followed.{Followed}
use Rattle.recovery.specs.declared.marks.Group.{Group}
use Rattle.recovery.specs.Shelf.{Found, absent, is_there, reading, laid}
use Rattle.recovery.specs.Reading.{Event}
use Rattle.recovery.specs.State.{Opening, State, opened}
use Rattle.recovery.specs.Answers.{is_next}
use Rattle.recovery.specs.Incremental.{received}
use Rattle.recovery.specs.Groups.{message_steps}
use Rattle.recovery.specs.Steps.{followed_to, noted, adoptions}
use Rattle.recovery.specs.Calls.{Call, incremental, join, leave, snapshot, question, taken, step, run}
use Rattle.recovery.specs.Publisher.{Publisher, value_at, Honest, Imaged, Nth, telling, looping, Brings, Fed}
use Rattle.recovery.specs.Extents.{Parts, Reach, untouched, near, moved}
use Rattle.recovery.specs.Reach.{sound, takes_packet, takes_snapshot, tell_all, placed, reach_step, reach_run}
use Rattle.recovery.proofs.Basics.{cond_two, by_test}
use Rattle.recovery.proofs.Books.{GoodFound}
use Rattle.recovery.proofs.Kin.{place_of, kept_agrees, Rel, GoodGroup, renew_ok}
use Rattle.recovery.proofs.Walks.{steps_row, logs_row}
use Rattle.recovery.proofs.Tells.{events_rel, events_log, imaged-after}
use Rattle.recovery.proofs.Verdicts.{packet_verdict, snapshot_verdict, join_verdict, leave_verdict, due_next}
use Rattle.recovery.proofs.Way.{tell_logs}

cond_self : (b : Bool) → cond b true false ≡ b
cond_self true = refl
cond_self false = refl

module _ {V O : Type 0} (K : Kind V O) (P : Publisher) (Image : HeaderFields → List Part → V → Type 0) (honest : Honest K P Image) (o : Opening) where
  value_zero : (i : ℕ) → K.fresh ≡ value_at K P i 0
  unfolding value_at
  value_zero i = refl

  -- what is yet to come in the loop that is followed
  abbrev pub future : Option Followed → List Event
  future None = []
  future (Some f) = looping (drop f.last (P.loops f.loop_number))

  -- what holds between a receiver and its reach
  pub record Kin (s : State V O) (r : Reach) : Type 0 where
    pub loop : Option Followed
    pub rel : Rel K P Image honest o loop (future loop) s r

  -- a packet that is taken has kept the rules, is recent, and is the publisher's
  module _ (bytes : List ℕ) (ok : is_ok (packet_check o.sheet bytes) ≡ true) (b : Brings P o (incremental 0 bytes)) where
    laid_good : (h : ℕ) (shelf : ℕ → Found) → ((k : ℕ) → GoodFound K P Image honest k (shelf k))
        → (k : ℕ) → GoodFound K P Image honest k (laid h (packet_head bytes).number (reading o.sheet bytes) shelf k)
    laid_good h shelf good k = go (eqb k (packet_head bytes).number) refl (leb (k + 32) h)
      where
        go : (c : Bool) → eqb k (packet_head bytes).number ≡ c → (d : Bool) → GoodFound K P Image honest k (cond c (reading o.sheet bytes) (cond d absent (shelf k)))
        go true e d = rw (ok, eqb-true _ _ e) b
        go false e true = tt
        go false e false = good k

    laid_agrees : (h : ℕ) (shelf : ℕ → Found) (there : ℕ → Bool) → ((k : ℕ) → there k ≡ is_there (shelf k)) → h < (packet_head bytes).number + 32
        → (k : ℕ) → near h (λ j. eqb j (packet_head bytes).number || there j) k ≡ is_there (laid h (packet_head bytes).number (reading o.sheet bytes) shelf k)
    laid_agrees h shelf there agree lt k = by_test (eqb k (packet_head bytes).number)
        (λ e. let same : k ≡ (packet_head bytes).number = eqb-true _ _ e in rw (e, ok, lt-ltb h (k + 32) (omega (arith, same, lt))))
        (λ e. rw e (kept_agrees h shelf there agree k))

    received_ok : (l : Option Followed) (fs : List Event) (s : State V O) (r : Reach) → r.heard < (packet_head bytes).number + 32 → Rel K P Image honest o l fs s r
        → Rel K P Image honest o l fs (received K o bytes s) (moved (max r.heard (packet_head bytes).number) (λ k. eqb k (packet_head bytes).number || r.there k) r.extent r)
    received_ok l fs s r lt rel =
        let b = rel.base in let h = b.heard in
        renew_ok K P Image honest o l fs s (max s.plain.heard (packet_head bytes).number) (max r.heard (packet_head bytes).number)
        (laid (max s.plain.heard (packet_head bytes).number) (packet_head bytes).number (reading o.sheet bytes) s.plain.shelf)
        (λ k. eqb k (packet_head bytes).number || r.there k) r.extent r
        (ap (λ x. max x (packet_head bytes).number) h)
        (laid_good (max s.plain.heard (packet_head bytes).number) s.plain.shelf b.shelf)
        (laid_agrees (max s.plain.heard (packet_head bytes).number) s.plain.shelf r.there b.there (omega (arith, h, lt)))
        b.room b.books b.joined b.follow b.place rel.group

  -- the n-th packet of a loop, with what comes behind it
  loop_at : (rows : List (List Msg)) (n : ℕ) (ms : List Msg) → Nth rows n ms → (k : ℕ) × (n ≡ suc k) × (looping (drop k rows) ≡ telling ms ++ looping (drop n rows))
  unfolding looping
  loop_at [] n ms h = absurd h
  loop_at (y ∷ ys) zero ms h = absurd h
  loop_at (y ∷ ys) (suc zero) ms h = (0, refl, ap (λ x. telling x ++ looping ys) (sym h))
  loop_at (y ∷ ys) (suc (suc m)) ms h = let r = loop_at ys (suc m) ms h in (suc r.0, ap suc r.1, r.2)

  module _ (law : ImageLaw K Image) where
    imaged-drop : (k : ℕ) (rows : List (List Msg)) → Imaged K P Image (looping rows) → Imaged K P Image (looping (drop k rows))
    unfolding looping
    imaged-drop zero rows im = im
    imaged-drop (suc k) [] im = im
    imaged-drop (suc k) (y ∷ ys) im = imaged-drop k ys (imaged-after K P Image honest o law None (telling y) (looping ys) im)

    -- a snapshot packet's reading begins well
    module _ (bytes : List ℕ) (b : Nth (P.loops (packet_head bytes).version) (packet_head bytes).number (messages o.sheet bytes)) (l : Option Followed) (s : State V O) (r : Reach) (rel : Rel K P Image honest o l (future l) s r) where
      abbrev here : Option Followed
      here = Some (followed_to (packet_head bytes).version (packet_head bytes).number)

      abbrev row : List Event
      row = telling (messages o.sheet bytes)

      point : (k : ℕ) × ((packet_head bytes).number ≡ suc k) × (looping (drop k (P.loops (packet_head bytes).version)) ≡ row ++ future here)
      point = loop_at (P.loops (packet_head bytes).version) (packet_head bytes).number (messages o.sheet bytes) b

      start-imaged : Imaged K P Image (row ++ future here)
      start-imaged = rw (← point.2) (imaged-drop point.0 (P.loops (packet_head bytes).version) (honest.imaged (packet_head bytes).version))

      carried : (f : Option Followed) (x : Option Group) (y : Option Parts) → GoodGroup K P Image honest o (future f) x y s.rest → (c : Bool) → is_next f (packet_head bytes).version (packet_head bytes).number ≡ c
          → GoodGroup K P Image honest o (row ++ future here) (cond c x None) (cond c y None) s.rest
      carried f x y g false t = tt
      carried None x y g true t = absurd (false≢true t)
      carried (Some loop) x y g true t =
          let a = and_parts (eqb (packet_head bytes).version loop.loop_number) (eqb (packet_head bytes).number (loop.last + 1)) t in
          let el : (packet_head bytes).version ≡ loop.loop_number = eqb-true _ loop.loop_number a.0 in
          let en : (packet_head bytes).number ≡ loop.last + 1 = eqb-true _ (loop.last + 1) a.1 in
          let ek : point.0 ≡ loop.last = omega (arith, point.1, en) in
          let e : looping (drop loop.last (P.loops loop.loop_number)) ≡ row ++ future here = ap (λ j. looping (drop loop.last (P.loops j))) (sym el) ∙ ap (λ j. looping (drop j (P.loops (packet_head bytes).version))) (sym ek) ∙ point.2 in
          subst (λ fs. GoodGroup K P Image honest o fs x y s.rest) e g

      start : Rel K P Image honest o here (row ++ future here) (noted (packet_head bytes) s) (placed K o bytes r)
      start = let c = rel.base in record {
        base = record { heard = c.heard; there = c.there; joined = c.joined; follow = refl; place = refl; room = c.room; shelf = c.shelf; books = c.books };
        group = rw (c.follow, c.place, due_next l (packet_head bytes).version (packet_head bytes).number)
            (carried l s.plain.pending r.parts rel.group (is_next l (packet_head bytes).version (packet_head bytes).number) refl);
      }

      snapshot_ok : Rel K P Image honest o here (future here) (message_steps K o (messages o.sheet bytes) (noted (packet_head bytes) s)) (tell_all K o row (placed K o bytes r))
      snapshot_ok = rw (steps_row K o (messages o.sheet bytes) (noted (packet_head bytes) s))
          (events_rel K P Image honest o law here row (future here) (noted (packet_head bytes) s) (placed K o bytes r) start start-imaged)

      snapshot_log : adoptions K o bytes s ≡ tell_logs K o row (placed K o bytes r)
      snapshot_log = logs_row K o (messages o.sheet bytes) (noted (packet_head bytes) s)
          ∙ events_log K P Image honest o law here row (future here) (noted (packet_head bytes) s) (placed K o bytes r) start start-imaged

    module _ (s : State V O) (r : Reach) (kin : Kin s r) where
      place_is : r.place ≡ place_of s.plain.followed
      place_is = kin.rel.base.place ∙ ap place_of (sym kin.rel.base.follow)

      -- the receiver takes a packet where reach does
      pub packet_taken : (room : ℕ) (bytes : List ℕ) → taken o s.plain (incremental room bytes) ≡ takes_packet o r room bytes
      packet_taken room bytes = packet_verdict true false o s.plain r room bytes kin.rel.base.heard (kin.rel.base.there (packet_head bytes).number) ∙ cond_self (takes_packet o r room bytes)

      pub snapshot-taken : (j room : ℕ) (bytes : List ℕ) → taken o s.plain (snapshot j room bytes) ≡ takes_snapshot o r j room bytes
      snapshot-taken j room bytes = snapshot_verdict true false o s.plain r j room bytes kin.rel.base.joined place_is ∙ cond_self (takes_snapshot o r j room bytes)

      packet_recent : (room : ℕ) (bytes : List ℕ) → takes_packet o r room bytes ≡ true → (is_ok (packet_check o.sheet bytes) ≡ true) × (r.heard < (packet_head bytes).number + 32)
      packet_recent room bytes t =
          let a = and_parts (sound o room bytes) _ t in
          let b = (and_parts (leb 44800 room) _ a.0).1 in
          let c = (and_parts (eqb (packet_head bytes).version o.version) _ a.1).1 in
          let d = (and_parts (ltb 0 (packet_head bytes).number) _ c).1 in
          ((and_parts (is_ok (packet_check o.sheet bytes)) _ b).0, ltb-true _ _ (and_parts (ltb r.heard ((packet_head bytes).number + 32)) _ d).0)

      incremental_ok : (room : ℕ) (bytes : List ℕ) → (taken o s.plain (incremental room bytes) ≡ true → Brings P o (incremental room bytes))
          → Kin (step K o s (incremental room bytes)) (reach_step K o r (incremental room bytes))
      incremental_ok room bytes fed =
          subst (λ (x : State V O). Kin x (reach_step K o r (incremental room bytes)))
          (sym (packet_verdict (received K o bytes s) s o s.plain r room bytes kin.rel.base.heard (kin.rel.base.there (packet_head bytes).number)))
          (cond_two Kin (takes_packet o r room bytes) (takes_packet o r room bytes) refl _ _ _ _
          (λ t. let q = packet_recent room bytes t in
          record { loop = kin.loop; rel = received_ok bytes q.0 (fed (packet_taken room bytes ∙ t)) kin.loop (future kin.loop) s r q.1 kin.rel })
          (λ _. kin))

      snapshot_keeps : (j room : ℕ) (bytes : List ℕ) → (taken o s.plain (snapshot j room bytes) ≡ true → Brings P o (snapshot j room bytes))
          → Kin (step K o s (snapshot j room bytes)) (reach_step K o r (snapshot j room bytes))
      snapshot_keeps j room bytes fed =
          subst (λ (x : State V O). Kin x (reach_step K o r (snapshot j room bytes)))
          (sym (snapshot_verdict (message_steps K o (messages o.sheet bytes) (noted (packet_head bytes) s)) s o s.plain r j room bytes kin.rel.base.joined place_is))
          (cond_two Kin (takes_snapshot o r j room bytes) (takes_snapshot o r j room bytes) refl _ _ _ _
          (λ t. record { loop = Some (followed_to (packet_head bytes).version (packet_head bytes).number); rel = snapshot_ok bytes (fed (snapshot-taken j room bytes ∙ t)) kin.loop s r kin.rel })
          (λ _. kin))

      join_ok : Kin (step K o s join) (reach_step K o r join)
      join_ok = subst (λ (x : State V O). Kin x (reach_step K o r join)) (sym (join_verdict _ s s.plain.joined))
          (cond_two Kin s.plain.joined r.joined (sym kin.rel.base.joined) _ _ _ _ (λ _. kin)
          (λ _. let b = kin.rel.base in record {
            loop = kin.loop;
            rel = record {
              base = record { heard = b.heard; there = b.there; joined = refl; follow = b.follow; place = b.place; room = b.room; shelf = b.shelf; books = b.books };
              group = kin.rel.group;
            };
          }))

      leave_ok : (j : ℕ) → Kin (step K o s (leave j)) (reach_step K o r (leave j))
      leave_ok j = subst (λ (x : State V O). Kin x (reach_step K o r (leave j))) (sym (leave_verdict _ s (s.plain.joined && eqb j o.own)))
          (cond_two Kin (s.plain.joined && eqb j o.own) (r.joined && eqb j o.own) (ap (λ b. b && eqb j o.own) (sym kin.rel.base.joined)) _ _ _ _
          (λ _. let b = kin.rel.base in record {
            loop = None;
            rel = record {
              base = record { heard = b.heard; there = b.there; joined = refl; follow = refl; place = refl; room = b.room; shelf = b.shelf; books = b.books };
              group = tt;
            };
          })
          (λ _. kin))

      pub step_ok : (c : Call) → (taken o s.plain c ≡ true → Brings P o c) → Kin (step K o s c) (reach_step K o r c)
      step_ok (incremental room bytes) fed = incremental_ok room bytes fed
      step_ok join fed = join_ok
      step_ok (leave j) fed = leave_ok j
      step_ok (snapshot j room bytes) fed = snapshot_keeps j room bytes fed
      step_ok (question i) fed = kin

      -- the adoptions of a snapshot packet are those that reach counts
      pub adoptions-same : (j room : ℕ) (bytes : List ℕ) → Brings P o (snapshot j room bytes) → adoptions K o bytes s ≡ tell_logs K o (telling (messages o.sheet bytes)) (placed K o bytes r)
      adoptions-same j room bytes b = snapshot_log bytes b kin.loop s r kin.rel

    pub run_ok : (cs : List Call) (s : State V O) (r : Reach) → Kin s r → Fed K P o s cs → Kin (run K o s cs) (reach_run K o r cs)
    run_ok [] s r kin fed = kin
    run_ok (c ∷ cs) s r kin fed = run_ok cs (step K o s c) (reach_step K o r c) (step_ok s r kin c fed.0) fed.1

    pub opened_ok : (store : Model V O) → length o.watch ≤ length store.slots → Kin (opened K o store) (untouched o)
    opened_ok store le = record {
      loop = None;
      rel = record {
        base = record { heard = refl; there = λ k. refl; joined = refl; follow = refl; place = refl; room = le; shelf = λ k. tt; books = λ i w. rw (w) (value_zero i, refl) };
        group = tt;
      };
    }
