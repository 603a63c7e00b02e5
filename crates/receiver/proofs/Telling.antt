-- The events and messages of a snapshot packet, one by one.
use Rattle.std.proofs.Common.{◌≡◌, ℕ, zero, suc, ◌+◌, ◌-◌, ◌≤◌, Bool, true, false, List, [], ◌∷◌, length, Some, None, Option, sym, refl, ap, ◌∙◌, arith}
use Rattle.std.specs.Option.{option_zip}
use Rattle.std.proofs.lemmas.List.{length-append}
use Rattle.layout.specs.declared.kinds.EntriesLayout.{EntriesLayout}
use Rattle.layout.specs.declared.sheet.Sheet.{Sheet}
use Rattle.layout.specs.Wire.{le_at}
use Rattle.message.specs.declared.values.HeaderFields.{HeaderFields}
use Rattle.message.specs.Meaning.{Msg, Part, entry, or_torn, entry_fields}
use Rattle.packet.specs.Rules.{messages_from}
use Rattle.store.specs.Kind.{Kind}
use Rattle.recovery.specs.Reading.{Event, opens, closes, adds, opens_for, entries_for, told}
use Rattle.recovery.specs.State.{Opening, State}
use Rattle.recovery.specs.Updates.{on_pending}
use Rattle.recovery.specs.Groups.{event_step, event_steps, message_steps, grown}
use Rattle.recovery.specs.Log.{event_log, event_logs, message_logs}
use Rattle.receiver.specs.Standings.{bit}

-- a header is read for an opening where both its instrument and its fields are there, and for a closing otherwise
pub both_there : (i : Option ℕ) (h : Option HeaderFields) (j : ℕ) (f : HeaderFields) → Some (j, f) ≡ option_zip i h → opens_for i h ≡ opens j f ∷ []
both_there None h j f e = let z : ◌≡◌ {A = ℕ} 0 1 = cc in absurd (omega arith)
both_there (Some i) None j f e = let z : ◌≡◌ {A = ℕ} 0 1 = cc in absurd (omega arith)
both_there (Some i) (Some h) j f e = let q : ◌≡◌ {A = ℕ × HeaderFields} (j, f) (i, h) = cc in sym (ap (λ z. opens z.0 z.1 ∷ []) q)

pub one_missing : (i : Option ℕ) (h : Option HeaderFields) → None ≡ option_zip i h → opens_for i h ≡ closes ∷ []
one_missing None h e = refl
one_missing (Some i) None e = refl
one_missing (Some i) (Some h) e = let z : ◌≡◌ {A = ℕ} 0 1 = cc in absurd (omega arith)

-- there are no more messages than bytes
pub few-messages : (sheet : Sheet) (k : ℕ) (bs : List ℕ) → length (messages_from sheet k bs) ≤ length bs
unfolding messages_from
few-messages sheet k [] = omega arith
few-messages sheet (suc k) (b ∷ bs) = let e = few-messages sheet k bs in omega arith
few-messages sheet zero (b ∷ bs) = let e = few-messages sheet (le_at (b ∷ bs) 0 2 - 1) bs in omega arith

module _ {V O : Type 0} (K : Kind V O) (o : Opening) where
  steps_next : (e : Event) (es : List Event) (s : State V O) → event_steps K o (e ∷ es) s ≡ event_steps K o es (event_step K o e s)
  unfolding event_steps
  steps_next e es s = refl

  pub steps_none : (s : State V O) → event_steps K o [] s ≡ s
  unfolding event_steps
  steps_none s = refl

  logs_next : (e : Event) (es : List Event) (s : State V O) → length (event_logs K o (e ∷ es) s) ≡ length (event_log K o e s) + length (event_logs K o es (event_step K o e s))
  unfolding event_logs
  logs_next e es s = length-append (event_log K o e s) (event_logs K o es (event_step K o e s))

  pub logs_none : (s : State V O) → length (event_logs K o [] s) ≡ 0
  unfolding event_logs
  logs_none s = refl

  -- one event alone
  pub steps_one : (e : Event) (s x : State V O) → x ≡ event_step K o e s → x ≡ event_steps K o (e ∷ []) s
  steps_one e s x is = is ∙ sym (steps_none (event_step K o e s)) ∙ sym (steps_next e [] s)

  pub logs_one : (e : Event) (s : State V O) (n : ℕ) → length (event_log K o e s) ≡ n → length (event_logs K o (e ∷ []) s) ≡ n
  logs_one e s n is = let f = logs_next e [] s in let h = logs_none (event_step K o e s) in omega arith

  step_closed : (i : ℕ) (p : Part) (s : State V O) → s.plain.pending ≡ None → event_step K o (adds i p) s ≡ s
  step_closed i p s e = ap (λ z. on_pending z s (λ g. grown K o i p g s)) e

  log_closed : (i : ℕ) (p : Part) (s : State V O) → s.plain.pending ≡ None → length (event_log K o (adds i p) s) ≡ 0
  log_closed i p s e = rw e

  -- entries meet no open group
  closed_steps : (i : ℕ) (l : EntriesLayout) (es : List (List ℕ)) (s : State V O) → s.plain.pending ≡ None → event_steps K o (entries_for i l es) s ≡ s
  closed_steps i l [] s e = steps_none s
  closed_steps i l (x ∷ es) s e = steps_next _ (entries_for i l es) s ∙ ap (event_steps K o (entries_for i l es)) (step_closed i (or_torn entry (entry_fields l x)) s e) ∙ closed_steps i l es s e

  closed_logs : (i : ℕ) (l : EntriesLayout) (es : List (List ℕ)) (s : State V O) → s.plain.pending ≡ None → length (event_logs K o (entries_for i l es) s) ≡ 0
  closed_logs i l [] s e = logs_none s
  closed_logs i l (x ∷ es) s e =
      let a = logs_next (adds i (or_torn entry (entry_fields l x))) (entries_for i l es) s in
      let b = log_closed i (or_torn entry (entry_fields l x)) s e in
      let c = ap (λ z. length (event_logs K o (entries_for i l es) z)) (step_closed i (or_torn entry (entry_fields l x)) s e) ∙ closed_logs i l es s e in
      a ∙ ap (λ n. n + length (event_logs K o (entries_for i l es) (event_step K o (adds i (or_torn entry (entry_fields l x))) s))) b ∙ ap (λ n. 0 + n) c

  -- as much is to come of these entries as there was, and none was adopted yet
  pub record ToCome (i : ℕ) (l : EntriesLayout) (es₀ es : List (List ℕ)) (s₀ s : State V O) : Type 0 where
    pub steps : event_steps K o (entries_for i l es₀) s₀ ≡ event_steps K o (entries_for i l es) s
    pub logs : length (event_logs K o (entries_for i l es₀) s₀) ≡ length (event_logs K o (entries_for i l es) s)

  pub come_start : (i : ℕ) (l : EntriesLayout) (es : List (List ℕ)) (s : State V O) → ToCome i l es es s s
  come_start i l es s = record { steps = refl; logs = refl }

  module _ (i : ℕ) (l : EntriesLayout) (es₀ es es' : List (List ℕ)) (x : List ℕ) (s₀ s s' : State V O) (inv : ToCome i l es₀ es s₀ s) (is : es ≡ x ∷ es')
      (step : s' ≡ event_step K o (adds i (or_torn entry (entry_fields l x))) s) where
    next_steps : event_steps K o (entries_for i l es) s ≡ event_steps K o (entries_for i l es') s'
    next_steps = ap (λ z. event_steps K o (entries_for i l z) s) is ∙ steps_next _ (entries_for i l es') s ∙ ap (event_steps K o (entries_for i l es')) (sym step)

    next_logs : (r : Bool) → length (event_log K o (adds i (or_torn entry (entry_fields l x))) s) ≡ bit r → length (event_logs K o (entries_for i l es) s) ≡ bit r + length (event_logs K o (entries_for i l es') s')
    next_logs r e = ap (λ z. length (event_logs K o (entries_for i l z) s)) is ∙ logs_next _ (entries_for i l es') s
        ∙ ap (λ n. n + length (event_logs K o (entries_for i l es') (event_step K o (adds i (or_torn entry (entry_fields l x))) s))) e ∙ ap (λ z. bit r + length (event_logs K o (entries_for i l es') z)) (sym step)

    pub come_next : (r : Bool) → length (event_log K o (adds i (or_torn entry (entry_fields l x))) s) ≡ bit r → r ≡ false → ToCome i l es₀ es' s₀ s'
    come_next r e f = record { steps = inv.steps ∙ next_steps; logs = let a = inv.logs in let b = next_logs r e in let c = ap bit f in omega arith }

    pub come_adopted : (r : Bool) → length (event_log K o (adds i (or_torn entry (entry_fields l x))) s) ≡ bit r → r ≡ true → s'.plain.pending ≡ None
        → (s' ≡ event_steps K o (entries_for i l es₀) s₀) × (length (event_logs K o (entries_for i l es₀) s₀) ≡ 1)
    come_adopted r e f shut = (
      sym (inv.steps ∙ next_steps ∙ closed_steps i l es' s' shut),
      (let a = inv.logs in let b = next_logs r e in let c = ap bit f in let d = closed_logs i l es' s' shut in omega arith),
    )

  pub come_end : (i : ℕ) (l : EntriesLayout) (es₀ es : List (List ℕ)) (s₀ s : State V O) → ToCome i l es₀ es s₀ s → es ≡ []
      → (s ≡ event_steps K o (entries_for i l es₀) s₀) × (length (event_logs K o (entries_for i l es₀) s₀) ≡ 0)
  come_end i l es₀ es s₀ s inv e =
      (sym (inv.steps ∙ ap (λ z. event_steps K o (entries_for i l z) s) e ∙ steps_none s), inv.logs ∙ ap (λ z. length (event_logs K o (entries_for i l z) s)) e ∙ logs_none s)

  messages_next : (m : Msg) (ms : List Msg) (s : State V O) → message_steps K o (m ∷ ms) s ≡ message_steps K o ms (event_steps K o (told m) s)
  unfolding message_steps
  messages_next m ms s = refl

  messages-none : (s : State V O) → message_steps K o [] s ≡ s
  unfolding message_steps
  messages-none s = refl

  told_next : (m : Msg) (ms : List Msg) (s : State V O) → length (message_logs K o (m ∷ ms) s) ≡ length (event_logs K o (told m) s) + length (message_logs K o ms (event_steps K o (told m) s))
  unfolding message_logs
  told_next m ms s = length-append (event_logs K o (told m) s) (message_logs K o ms (event_steps K o (told m) s))

  told_none : (s : State V O) → length (message_logs K o [] s) ≡ 0
  unfolding message_logs
  told_none s = refl

  -- as much is to come of these messages as there was, after n adoptions
  pub record Ahead (n : ℕ) (ms₀ ms : List Msg) (s₀ s : State V O) : Type 0 where
    pub steps : message_steps K o ms₀ s₀ ≡ message_steps K o ms s
    pub logs : length (message_logs K o ms₀ s₀) ≡ n + length (message_logs K o ms s)
    pub room : n + length ms ≤ 1400

  pub ahead-start : (ms : List Msg) (s : State V O) → length ms ≤ 1400 → Ahead 0 ms ms s s
  ahead-start ms s l = record { steps = refl; logs = omega arith; room = omega arith }

  pub ahead_next : (n : ℕ) (r : Bool) (ms₀ ms ms' : List Msg) (m : Msg) (s₀ s s' : State V O) → Ahead n ms₀ ms s₀ s → ms ≡ m ∷ ms' → s' ≡ event_steps K o (told m) s → length (event_logs K o (told m) s) ≡ bit r
      → (k : ℕ) → k ≡ n + bit r → Ahead k ms₀ ms' s₀ s'
  ahead_next n r ms₀ ms ms' m s₀ s s' inv is step log k e =
      let a = ap (λ z. length (message_logs K o z s)) is ∙ told_next m ms' s ∙ ap (λ z. length (event_logs K o (told m) s) + length (message_logs K o ms' z)) (sym step) in
      let b = inv.logs in let c = inv.room in let d = ap length is in let f = at_most_one r in record {
        steps = inv.steps ∙ ap (λ z. message_steps K o z s) is ∙ messages_next m ms' s ∙ ap (message_steps K o ms') (sym step);
        logs = omega arith;
        room = omega arith;
      }
    where
      at_most_one : (b : Bool) → bit b ≤ 1
      at_most_one true = omega arith
      at_most_one false = omega arith

  pub ahead-end : (n : ℕ) (ms₀ ms : List Msg) (s₀ s : State V O) → Ahead n ms₀ ms s₀ s → ms ≡ [] → (s ≡ message_steps K o ms₀ s₀) × (length (message_logs K o ms₀ s₀) ≡ n)
  ahead-end n ms₀ ms s₀ s inv e = (
    sym (inv.steps ∙ ap (λ z. message_steps K o z s) e ∙ messages-none s),
    (let a = inv.logs in let b = ap (λ z. length (message_logs K o z s)) e ∙ told_none s in omega arith),
  )

  -- a message that is read for nothing
  pub nothing : (m : Msg) (s : State V O) → told m ≡ [] → (s ≡ event_steps K o (told m) s) × (length (event_logs K o (told m) s) ≡ 0)
  nothing m s e = (sym (ap (λ z. event_steps K o z s) e ∙ steps_none s), ap (λ z. length (event_logs K o z s)) e ∙ logs_none s)

  -- a message that is read for one event
  pub only : (m : Msg) (e : Event) (s x : State V O) (n : ℕ) → told m ≡ e ∷ [] → x ≡ event_step K o e s → length (event_log K o e s) ≡ n → (x ≡ event_steps K o (told m) s) × (length (event_logs K o (told m) s) ≡ n)
  only m e s x n is step log = (steps_one e s x step ∙ sym (ap (λ z. event_steps K o z s) is), ap (λ z. length (event_logs K o z s)) is ∙ logs_one e s n log)
