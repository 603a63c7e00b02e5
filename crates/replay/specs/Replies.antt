-- What the desk answers to a call.
use Rattle.std.specs.Prelude.{Ok, Err, Result}
use Rattle.store.specs.Kind.{Kind}
use Rattle.recovery.specs.declared.answers.Incremental.{Incremental}
use Rattle.recovery.specs.declared.answers.Incremental.TheVariants as incrementals
use Rattle.recovery.specs.declared.answers.Snapshot.{Snapshot}
use Rattle.recovery.specs.declared.answers.Snapshot.TheVariants as snapshots
use Rattle.recovery.specs.declared.answers.Standing.{Standing}
use Rattle.recovery.specs.declared.fault.StreamFault.{StreamFault}
use Rattle.recovery.specs.State.{Opening, State}
use Rattle.recovery.specs.Answers.{incremental_answer, join_check, present_join}
use Rattle.recovery.specs.Steps.{snapshot_answer, question_answer}
use Rattle.recovery.specs.Calls.{Call, incremental, join, leave, snapshot, question}
use Rattle.replay.specs.declared.call.Answer.{Answer}
use Rattle.replay.specs.declared.call.Answer.TheVariants as answers

abbrev pub of_incremental : Result Incremental StreamFault → Answer
of_incremental (Ok incrementals.Taken) = answers.Taken
of_incremental (Ok incrementals.Repeat) = answers.Repeat
of_incremental (Err e) = answers.Refused e

abbrev pub of_snapshot : Result Snapshot StreamFault → Answer
of_snapshot (Ok (snapshots.Taken n)) = answers.Adopted n
of_snapshot (Ok snapshots.Repeat) = answers.Repeat
of_snapshot (Err e) = answers.Refused e

abbrev pub of_standing : Result Standing StreamFault → Answer
of_standing (Ok s) = answers.Standing s
of_standing (Err e) = answers.Refused e

abbrev pub of_check : Answer → Result (Unit {0}) StreamFault → Answer
of_check a (Ok x) = a
of_check a (Err e) = answers.Refused e

-- the machine's answer to a call
module _ {V O : Type 0} (K : Kind V O) (o : Opening) where
  abbrev pub reply : State V O → Call → Answer
  reply s (incremental room bytes) = of_incremental (incremental_answer o s.plain room bytes)
  reply s join = of_check answers.Joined (join_check s.plain)
  reply s (leave j) = of_check answers.Left (present_join o s.plain j)
  reply s (snapshot j room bytes) = of_snapshot (snapshot_answer K o j room bytes s)
  reply s (question i) = of_standing (question_answer o i s)
