-- What a join, a leave, a snapshot packet and a question answer and leave.
use Rattle.std.specs.Prelude.{ℕ, true, false, cond, List, length, Some, None, Ok, Result}
use Rattle.packet.specs.declared.head.PacketHead.{PacketHead}
use Rattle.packet.specs.Rules.{and_then, messages, packet_head}
use Rattle.store.specs.Kind.{Kind}
use Rattle.recovery.specs.declared.answers.Snapshot.{Snapshot}
use Rattle.recovery.specs.declared.answers.Snapshot.TheVariants.{Repeat, Taken}
use Rattle.recovery.specs.declared.answers.Standing.{Standing}
use Rattle.recovery.specs.declared.fault.StreamFault.{StreamFault}
use Rattle.recovery.specs.declared.marks.Followed.{Followed}
use Rattle.recovery.specs.State.{Opening, slot_of, State}
use Rattle.recovery.specs.Answers.{join_check, present_join, snapshot_check, again, is_next, question_check, standing}
use Rattle.recovery.specs.Updates.{following, with_plain, when_ok}
use Rattle.recovery.specs.Groups.{message_steps}
use Rattle.recovery.specs.Log.{Adoption, message_logs}

-- the loop l is followed up to packet s
abbrev pub followed_to : ℕ → ℕ → Followed
followed_to l s = record { loop_number = l; last = s }

module _ {V O : Type 0} where
  abbrev pub join_step : State V O → State V O
  join_step s = when_ok (join_check s.plain) (with_plain (following true s.plain.followed s.plain.pending s.plain) s) s

  -- leaving closes the open group and forgets the loop
  abbrev pub leave_step : Opening → ℕ → State V O → State V O
  leave_step o j s = when_ok (present_join o s.plain j) (with_plain (following false None None s.plain) s) s

  -- a snapshot packet is noted, and closes the open group unless it is the one that is due
  abbrev pub noted : PacketHead → State V O → State V O
  noted h s =
      let g = cond (is_next s.plain.followed h.version h.number) s.plain.pending None in
      with_plain (following s.plain.joined (Some (followed_to h.version h.number)) g s.plain) s

  abbrev pub question_answer : Opening → ℕ → State V O → Result Standing StreamFault
  question_answer o i s = and_then (question_check o i) (λ _. Ok (standing s.plain.heard (s.books (slot_of o i)).mark))

module _ {V O : Type 0} (K : Kind V O) (o : Opening) where
  abbrev pub snapshot_step : ℕ → ℕ → List ℕ → State V O → State V O
  snapshot_step j room bytes s =
      let h = packet_head bytes in
      when_ok (snapshot_check o s.plain j room bytes) (cond (again s.plain.followed h.version h.number) s (message_steps K o (messages o.sheet bytes) (noted h s))) s

  -- the adoptions of a snapshot packet that is accepted
  abbrev pub adoptions : List ℕ → State V O → List Adoption
  adoptions bytes s = message_logs K o (messages o.sheet bytes) (noted (packet_head bytes) s)

  abbrev pub snapshot_answer : ℕ → ℕ → List ℕ → State V O → Result Snapshot StreamFault
  snapshot_answer j room bytes s =
      let h = packet_head bytes in
      and_then (snapshot_check o s.plain j room bytes) (λ _.
      Ok (cond (again s.plain.followed h.version h.number) Repeat (Taken (length (adoptions bytes s)))))
