-- A snapshot packet's events keep receiver and reach together, and both count the same adoptions.
use Rattle.std.proofs.Common.{◌≡◌, ℕ, Bool, true, false, cond, ◌&&◌, eqb, List, [], ◌∷◌, ◌++◌, Some, None, Option, sym, refl, ap, ◌∙◌, subst, ap₂}
use Rattle.message.specs.declared.values.HeaderFields.{HeaderFields}
use Rattle.message.specs.Meaning.{Part}
use Rattle.store.specs.Kind.{Kind}
use Rattle.store.specs.Law.{Fills, ImageLaw}
use Rattle.recovery.specs.declared.marks.Followed.{Followed}
use Rattle.recovery.specs.declared.marks.Group.{Group}
use Rattle.recovery.specs.Reading.{Event, opens, closes, adds}
use Rattle.recovery.specs.State.{Opening, watched, State}
use Rattle.recovery.specs.Updates.{with_pending, with_staged, on_pending}
use Rattle.recovery.specs.Groups.{group_of, wanted, decided, begun, grown, event_step, event_steps}
use Rattle.recovery.specs.Log.{Adoption, decided_log, event_log, event_logs}
use Rattle.recovery.specs.Publisher.{Publisher, value_at, Honest, Imaged, pieces_of}
use Rattle.recovery.specs.Extents.{Parts, Reach, of_parts, with_parts}
use Rattle.recovery.specs.Reach.{judged, tell, tell_all}
use Rattle.recovery.proofs.Kin.{Base, Rel, GoodOpen, GoodGroup, base_group, decide_ok, wanted-news}
use Rattle.recovery.proofs.Way.{judged_log, tell_log, tell_logs}

and_true : (b : Bool) → (b && true) ≡ b
and_true true = refl
and_true false = refl

module _ {V O : Type 0} (K : Kind V O) (P : Publisher) (Image : HeaderFields → List Part → V → Type 0) (honest : Honest K P Image) (o : Opening) (law : ImageLaw K Image) (l : Option Followed) where
  abbrev R : List Event → State V O → Reach → Type 0
  R fs s r = Rel K P Image honest o l fs s r

  abbrev B : State V O → Reach → Type 0
  B s r = Base K P Image honest o l s r

  -- the state and the log beside reach and its log
  record Alike (fs : List Event) (s : State V O) (log : List Adoption) (r : Reach) (log' : List Adoption) : Type 0 where
    rel : R fs s r
    logs : log ≡ log'

  log_ok : (fs : List Event) (p : Parts) (s : State V O) (r : Reach) → B s r → GoodOpen K P Image honest o fs p s.rest
      → decided_log K o (group_of p.of p.header) s ≡ judged_log K o p r
  log_ok fs p s r b g = rw (← g.1, ← (wanted-news K P Image honest o l fs p s r b g)) (go (K.whole s.rest.owed) (wanted K o (group_of p.of p.header) s))
    where
      go : (a c : Bool) → cond {A = List Adoption} (a && c) (record { security = p.of; number = p.header.last } ∷ []) [] ≡ cond a (cond c (record { security = p.of; number = p.header.last } ∷ []) []) []
      go true c = refl
      go false c = refl

  decided-alike : (fs : List Event) (p : Parts) (s : State V O) (r : Reach) → B s r → GoodOpen K P Image honest o fs p s.rest → s.plain.pending ≡ Some (group_of p.of p.header)
      → Alike fs (decided K o (group_of p.of p.header) s) (decided_log K o (group_of p.of p.header) s) (judged K o p r) (judged_log K o p r)
  decided-alike fs p s r b g e = record { rel = decide_ok K P Image honest o l fs p s r b g e; logs = log_ok fs p s r b g }

  closed_alike : (fs : List Event) (s : State V O) (r : Reach) → B s r → Alike fs (with_pending None s) [] (with_parts None r) []
  closed_alike fs s r b = record { rel = record { base = base_group K P Image honest o l s r None None b; group = tt }; logs = refl }

  staged_base : (s : State V O) (r : Reach) (g : Option Group) (v : V) (w : O) → B s r → B (with_pending g (with_staged v w s)) r
  staged_base s r g v w b = record { heard = b.heard; there = b.there; joined = b.joined; follow = b.follow; place = b.place; room = b.room; shelf = b.shelf; books = b.books }

  -- a piece, where this group is open
  added : (i : ℕ) (p : Part) (fs : List Event) (s : State V O) (r : Reach) (q : Parts) → B s r → s.plain.pending ≡ Some (group_of q.of q.header) → r.parts ≡ Some q
      → GoodOpen K P Image honest o (adds i p ∷ fs) q s.rest
      → Alike fs (grown K o i p (group_of q.of q.header) s)
      (cond (eqb i q.of && K.takes s.rest.staged s.rest.owed p) (decided_log K o (group_of q.of q.header) (with_staged (K.put s.rest.staged s.rest.owed p) (K.less s.rest.owed p) s)) [])
      (cond (eqb i q.of) (judged K o (record { of = q.of; header = q.header; pieces = p ∷ q.pieces }) r) r)
      (cond (eqb i q.of) (judged_log K o (record { of = q.of; header = q.header; pieces = p ∷ q.pieces }) r) [])
  unfolding pieces_of
  added i p fs s r q b e e' g = go (eqb i q.of) g.2
    where
      q' : Parts
      q' = record { of = q.of; header = q.header; pieces = p ∷ q.pieces }

      s' : State V O
      s' = with_staged (K.put s.rest.staged s.rest.owed p) (K.less s.rest.owed p) s

      go : (c : Bool) → Fills K s.rest.staged s.rest.owed (cond c (p ∷ pieces_of q.of fs) (pieces_of q.of fs)) (value_at K P q.of q.header.last)
          → Alike fs (cond c (cond (K.takes s.rest.staged s.rest.owed p) (decided K o (group_of q.of q.header) s') (with_pending None s)) s)
          (cond (c && K.takes s.rest.staged s.rest.owed p) (decided_log K o (group_of q.of q.header) s') [])
          (cond c (judged K o q' r) r) (cond c (judged_log K o q' r) [])
      go true f = rw f.1 (decided-alike fs q' s' r
          (record { heard = b.heard; there = b.there; joined = b.joined; follow = b.follow; place = b.place; room = b.room; shelf = b.shelf; books = b.books })
          (g.0, ap (λ x. K.less x p) g.1, f.2) e)
      go false f = record { rel = record { base = b; group = rw (e, e') (refl, (g.0, g.1, f)) }; logs = refl }

  event_ok : (e : Event) (fs : List Event) (s : State V O) (r : Reach) → R (e ∷ fs) s r → Imaged K P Image (e ∷ fs)
      → Alike fs (event_step K o e s) (event_log K o e s) (tell K o e r) (tell_log K o e r)
  unfolding Imaged pieces_of
  event_ok (opens i h) fs s r rel im =
      let a = law h (pieces_of i fs) (value_at K P i h.last) im.1 in
      let t : (watched o i && K.holds h) ≡ watched o i = ap (λ b. watched o i && b) a.0 ∙ and_true (watched o i) in
      rw t (go (watched o i) refl a.1)
    where
      q : Parts
      q = record { of = i; header = h; pieces = [] }

      s' : State V O
      s' = with_pending (Some (group_of i h)) (with_staged (K.begins h) (K.owes h) s)

      go : (b : Bool) → watched o i ≡ b → Fills K (K.begins h) (K.owes h) (pieces_of i fs) (value_at K P i h.last)
          → Alike fs (cond b (begun K o i h s) (with_pending None s)) (cond b (decided_log K o (group_of i h) (with_staged (K.begins h) (K.owes h) s)) []) (cond b (judged K o q r) (with_parts None r)) (cond b (judged_log K o q r) [])
      go true w f = decided-alike fs q s' r (staged_base s r (Some (group_of i h)) (K.begins h) (K.owes h) rel.base) (w, refl, f) refl
      go false w f = closed_alike fs s r rel.base
  event_ok closes fs s r rel im = closed_alike fs s r rel.base
  event_ok (adds i p) fs s r rel im = go s.plain.pending r.parts refl refl rel.group
    where
      go : (x : Option Group) (y : Option Parts) → s.plain.pending ≡ x → r.parts ≡ y → GoodGroup K P Image honest o (adds i p ∷ fs) x y s.rest
          → Alike fs (on_pending x s (λ g. grown K o i p g s))
          (on_pending x [] (λ g. cond (eqb i g.security && K.takes s.rest.staged s.rest.owed p) (decided_log K o g (with_staged (K.put s.rest.staged s.rest.owed p) (K.less s.rest.owed p) s)) []))
          (of_parts y r (λ g. cond (eqb i g.of) (judged K o (record { of = g.of; header = g.header; pieces = p ∷ g.pieces }) r) r))
          (of_parts y [] (λ g. cond (eqb i g.of) (judged_log K o (record { of = g.of; header = g.header; pieces = p ∷ g.pieces }) r) []))
      go None None ex ey g = record { rel = record { base = rel.base; group = rw (ex, ey) tt }; logs = refl }
      go None (Some q) ex ey g = absurd g
      go (Some g₀) None ex ey g = absurd g
      go (Some g₀) (Some q) ex ey g = subst (λ (z : Group). Alike fs (grown K o i p z s)
          (cond (eqb i z.security && K.takes s.rest.staged s.rest.owed p) (decided_log K o z (with_staged (K.put s.rest.staged s.rest.owed p) (K.less s.rest.owed p) s)) [])
          (cond (eqb i q.of) (judged K o (record { of = q.of; header = q.header; pieces = p ∷ q.pieces }) r) r)
          (cond (eqb i q.of) (judged_log K o (record { of = q.of; header = q.header; pieces = p ∷ q.pieces }) r) []))
          (sym g.0) (added i p fs s r q rel.base (ex ∙ ap Some g.0) ey g.1)

  imaged_tail : (e : Event) (fs : List Event) → Imaged K P Image (e ∷ fs) → Imaged K P Image fs
  unfolding Imaged
  imaged_tail (opens i h) fs im = im.2
  imaged_tail closes fs im = im
  imaged_tail (adds i p) fs im = im

  events_ok : (es fs : List Event) (s : State V O) (r : Reach) → R (es ++ fs) s r → Imaged K P Image (es ++ fs)
      → Alike fs (event_steps K o es s) (event_logs K o es s) (tell_all K o es r) (tell_logs K o es r)
  unfolding event_steps event_logs tell_all tell_logs
  events_ok [] fs s r rel im = record { rel = rel; logs = refl }
  events_ok (e ∷ es) fs s r rel im =
      let a = event_ok e (es ++ fs) s r rel im in
      let w = events_ok es fs (event_step K o e s) (tell K o e r) a.rel (imaged_tail e (es ++ fs) im) in
      record { rel = w.rel; logs = ap₂ (λ x y. x ++ y) a.logs w.logs }

  pub events_rel : (es fs : List Event) (s : State V O) (r : Reach) → R (es ++ fs) s r → Imaged K P Image (es ++ fs) → R fs (event_steps K o es s) (tell_all K o es r)
  events_rel es fs s r rel im = (events_ok es fs s r rel im).rel

  pub events_log : (es fs : List Event) (s : State V O) (r : Reach) → R (es ++ fs) s r → Imaged K P Image (es ++ fs) → event_logs K o es s ≡ tell_logs K o es r
  events_log es fs s r rel im = (events_ok es fs s r rel im).logs

  pub imaged-after : (xs ys : List Event) → Imaged K P Image (xs ++ ys) → Imaged K P Image ys
  imaged-after [] ys im = im
  imaged-after (x ∷ xs) ys im = imaged-after xs ys (imaged_tail x (xs ++ ys) im)
