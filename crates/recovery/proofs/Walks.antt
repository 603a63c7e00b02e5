-- The messages of a snapshot packet as one row of events.
use Rattle.std.proofs.Common.{◌≡◌, List, [], ◌∷◌, ◌++◌, sym, refl, ap, ◌∙◌}
use Rattle.message.specs.Meaning.{Msg}
use Rattle.store.specs.Kind.{Kind}
use Rattle.recovery.specs.Reading.{Event, told}
use Rattle.recovery.specs.State.{Opening, State}
use Rattle.recovery.specs.Groups.{event_step, event_steps, message_steps}
use Rattle.recovery.specs.Log.{event_log, event_logs, message_logs}
use Rattle.recovery.specs.Publisher.{telling}

append_assoc : {A : Type 0} (xs ys zs : List A) → (xs ++ ys) ++ zs ≡ xs ++ (ys ++ zs)
append_assoc [] ys zs = refl
append_assoc (x ∷ xs) ys zs = ap (λ l. x ∷ l) (append_assoc xs ys zs)

module _ {V O : Type 0} (K : Kind V O) (o : Opening) where
  pub steps_append : (xs ys : List Event) (s : State V O) → event_steps K o (xs ++ ys) s ≡ event_steps K o ys (event_steps K o xs s)
  unfolding event_steps
  steps_append [] ys s = refl
  steps_append (x ∷ xs) ys s = steps_append xs ys (event_step K o x s)

  pub steps_row : (ms : List Msg) (s : State V O) → message_steps K o ms s ≡ event_steps K o (telling ms) s
  unfolding message_steps telling event_steps
  steps_row [] s = refl
  steps_row (m ∷ ms) s = steps_row ms (event_steps K o (told m) s) ∙ sym (steps_append (told m) (telling ms) s)

  pub logs_append : (xs ys : List Event) (s : State V O) → event_logs K o (xs ++ ys) s ≡ event_logs K o xs s ++ event_logs K o ys (event_steps K o xs s)
  unfolding event_logs event_steps
  logs_append [] ys s = refl
  logs_append (x ∷ xs) ys s = ap (λ l. event_log K o x s ++ l) (logs_append xs ys (event_step K o x s)) ∙ sym (append_assoc (event_log K o x s) (event_logs K o xs (event_step K o x s)) _)

  pub logs_row : (ms : List Msg) (s : State V O) → message_logs K o ms s ≡ event_logs K o (telling ms) s
  unfolding message_logs telling event_logs
  logs_row [] s = refl
  logs_row (m ∷ ms) s = ap (λ l. event_logs K o (told m) s ++ l) (logs_row ms (event_steps K o (told m) s)) ∙ sym (logs_append (told m) (telling ms) s)
