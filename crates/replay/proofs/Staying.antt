-- A packet leaves it as it was whether the receiver is joined.
use Rattle.std.proofs.Common.{◌≡◌, ℕ, Bool, true, false, cond, ◌&&◌, eqb, List, [], ◌∷◌, Some, None, Option, Ok, Err, Result, refl, ◌∙◌}
use Rattle.message.specs.Meaning.{Msg, Part}
use Rattle.packet.specs.Rules.{messages, packet_head}
use Rattle.store.specs.Kind.{Kind}
use Rattle.recovery.specs.declared.answers.Incremental.{Incremental}
use Rattle.recovery.specs.declared.answers.Incremental.TheVariants.{Repeat, Taken}
use Rattle.recovery.specs.declared.fault.StreamFault.{StreamFault}
use Rattle.recovery.specs.declared.marks.Group.{Group}
use Rattle.recovery.specs.State.{Opening, State, watched}
use Rattle.recovery.specs.Answers.{incremental_answer, snapshot_check, again}
use Rattle.recovery.specs.Updates.{when_taken, when_ok, on_pending, with_pending, with_staged}
use Rattle.recovery.specs.Incremental.{incremental_step, received}
use Rattle.recovery.specs.Reading.{Event, opens, closes, adds, told}
use Rattle.recovery.specs.Groups.{decided, begun, grown, wanted, group_of, event_step, event_steps, message_steps}
use Rattle.recovery.specs.Steps.{noted, snapshot_step}

pub when_ok_lem : {A B : Type 0} (f : A → B) (c : Result (Unit {0}) StreamFault) (t s : A) → f (when_ok c t s) ≡ when_ok c (f t) (f s)
when_ok_lem f (Ok x) t s = refl
when_ok_lem f (Err e) t s = refl

module _ {V O : Type 0} (P : State V O → Bool) where
  of-cond : (b : Bool) (x y s : State V O) → P x ≡ P s → P y ≡ P s → P (cond b x y) ≡ P s
  of-cond true x y s p q = p
  of-cond false x y s p q = q

  of-taken : (c : Result Incremental StreamFault) (x y s : State V O) → P x ≡ P s → P y ≡ P s → P (when_taken c x y) ≡ P s
  of-taken (Err e) x y s p q = q
  of-taken (Ok Repeat) x y s p q = q
  of-taken (Ok Taken) x y s p q = p

  of_ok : (c : Result (Unit {0}) StreamFault) (x y s : State V O) → P x ≡ P s → P y ≡ P s → P (when_ok c x y) ≡ P s
  of_ok (Err e) x y s p q = q
  of_ok (Ok z) x y s p q = p

  of-pending : (g : Option Group) (x s : State V O) (f : Group → State V O) → P x ≡ P s → ((h : Group) → P (f h) ≡ P s) → P (on_pending g x f) ≡ P s
  of-pending None x s f p q = p
  of-pending (Some h) x s f p q = q h

abbrev joined_in : {V O : Type 0} → State V O → Bool
joined_in s = s.plain.joined

module _ {V O : Type 0} (K : Kind V O) (o : Opening) where
  of-decided : (g : Group) (s : State V O) → joined_in (decided K o g s) ≡ joined_in s
  of-decided g s = of-cond joined_in (K.whole s.rest.owed) _ _ s (of-cond joined_in (wanted K o g s) _ _ s refl refl) refl

  of-grown : (i : ℕ) (p : Part) (g : Group) (s : State V O) → joined_in (grown K o i p g s) ≡ joined_in s
  of-grown i p g s =
      let t : State V O = with_staged (K.put s.rest.staged s.rest.owed p) (K.less s.rest.owed p) s in
      let u : State V O = with_pending None s in
      let w : State V O = cond (K.takes s.rest.staged s.rest.owed p) (decided K o g t) u in
      of-cond joined_in (eqb i g.security) w s s
      (of-cond joined_in (K.takes s.rest.staged s.rest.owed p) (decided K o g t) u s (of-decided g t) refl)
      refl

  of_event : (e : Event) (s : State V O) → joined_in (event_step K o e s) ≡ joined_in s
  of_event (opens i h) s =
      let t : State V O = with_pending (Some (group_of i h)) (with_staged (K.begins h) (K.owes h) s) in
      let u : State V O = with_pending None s in
      of-cond joined_in (watched o i && K.holds h) (begun K o i h s) u s (of-decided (group_of i h) t) refl
  of_event closes s = refl
  of_event (adds i p) s = of-pending joined_in s.plain.pending s s (λ g. grown K o i p g s) refl (λ g. of-grown i p g s)

  of_events : (es : List Event) (s : State V O) → joined_in (event_steps K o es s) ≡ joined_in s
  unfolding event_steps
  of_events [] s = refl
  of_events (e ∷ es) s = of_events es (event_step K o e s) ∙ of_event e s

  of-messages : (ms : List Msg) (s : State V O) → joined_in (message_steps K o ms s) ≡ joined_in s
  unfolding message_steps
  of-messages [] s = refl
  of-messages (m ∷ ms) s = of-messages ms (event_steps K o (told m) s) ∙ of_events (told m) s

  pub incremental_stays : (room : ℕ) (bytes : List ℕ) (s : State V O) → (incremental_step K o room bytes s).plain.joined ≡ s.plain.joined
  incremental_stays room bytes s = of-taken joined_in (incremental_answer o s.plain room bytes) (received K o bytes s) s s refl refl

  pub snapshot_stays : (j room : ℕ) (bytes : List ℕ) (s : State V O) → (snapshot_step K o j room bytes s).plain.joined ≡ s.plain.joined
  snapshot_stays j room bytes s =
      let t : State V O = message_steps K o (messages o.sheet bytes) (noted (packet_head bytes) s) in
      let d : Bool = again s.plain.followed (packet_head bytes).version (packet_head bytes).number in
      of_ok joined_in (snapshot_check o s.plain j room bytes) (cond d s t) s s
      (of-cond joined_in d s t s refl (of-messages (messages o.sheet bytes) (noted (packet_head bytes) s)))
      refl
