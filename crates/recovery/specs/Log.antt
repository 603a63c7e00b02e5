-- The adoptions that the messages of a snapshot packet lead to.
use Rattle.std.specs.Prelude.{ℕ, cond, ◌&&◌, List, [], ◌∷◌, ◌++◌, ◌==◌}
use Rattle.message.specs.Meaning.{Msg}
use Rattle.store.specs.Kind.{Kind}
use Rattle.recovery.specs.declared.marks.Group.{Group}
use Rattle.recovery.specs.Reading.{Event, opens, closes, adds, told}
use Rattle.recovery.specs.State.{Opening, watched, State}
use Rattle.recovery.specs.Updates.{with_staged, on_pending}
use Rattle.recovery.specs.Groups.{group_of, wanted, event_step, event_steps}

-- an adoption: the instrument, and the packet that its snapshot is of
pub record Adoption : Type 0 where
  pub security : ℕ
  pub number : ℕ

module _ {V O : Type 0} (K : Kind V O) (o : Opening) where
  abbrev pub decided_log : Group → State V O → List Adoption
  decided_log g s = cond (K.whole s.rest.owed && wanted K o g s) (record { security = g.security; number = g.last } ∷ []) []

  abbrev pub event_log : Event → State V O → List Adoption
  event_log (opens i h) s = cond (watched o i && K.holds h) (decided_log (group_of i h) (with_staged (K.begins h) (K.owes h) s)) []
  event_log closes s = []
  event_log (adds i p) s = on_pending s.plain.pending [] (λ g.
      cond (i == g.security && K.takes s.rest.staged s.rest.owed p)
      (decided_log g (with_staged (K.put s.rest.staged s.rest.owed p) (K.less s.rest.owed p) s)) [])

  unfoldable pub event_logs : List Event → State V O → List Adoption
  event_logs [] s = []
  event_logs (e ∷ es) s = event_log e s ++ event_logs es (event_step K o e s)

  unfoldable pub message_logs : List Msg → State V O → List Adoption
  message_logs [] s = []
  message_logs (m ∷ ms) s = event_logs (told m) s ++ message_logs ms (event_steps K o (told m) s)
