-- Runs: the calls that a receiver gets one after the other, and what it shows after them.
use Rattle.std.specs.Prelude.{ℕ, Bool, true, false, cond, List, [], ◌∷◌}
use Rattle.packet.specs.Rules.{packet_head}
use Rattle.store.specs.Kind.{Kind, Model}
use Rattle.recovery.specs.declared.answers.Sign.{Sign}
use Rattle.recovery.specs.State.{Opening, slot_of, Plain, State, opened}
use Rattle.recovery.specs.Answers.{incremental_answer, snapshot_check, again, standing}
use Rattle.recovery.specs.Updates.{when_taken, when_ok}
use Rattle.recovery.specs.Incremental.{incremental_step}
use Rattle.recovery.specs.Steps.{join_step, leave_step, snapshot_step}

-- A call with its arguments. Of the shelf that is lent the length counts, of a join the number that it carries.
pub data Call : Type 0 where
  incremental : (room : ℕ) (bytes : List ℕ) → Call
  join : Call
  leave : (joint : ℕ) → Call
  snapshot : (joint : ℕ) (room : ℕ) (bytes : List ℕ) → Call
  question : (instrument : ℕ) → Call

-- a packet that is taken: neither refused nor a repeat
abbrev pub taken : Opening → Plain → Call → Bool
taken o p (incremental room bytes) = when_taken (incremental_answer o p room bytes) true false
taken o p join = false
taken o p (leave j) = false
taken o p (snapshot j room bytes) = when_ok (snapshot_check o p j room bytes) (cond (again p.followed (packet_head bytes).version (packet_head bytes).number) false true) false
taken o p (question i) = false

-- what is shown of an instrument: the sign, the packet that the book is of, and the book
pub record Shown (V : Type 0) : Type 0 where
  pub sign : Sign
  pub number : ℕ
  pub book : V

module _ {V O : Type 0} (K : Kind V O) (o : Opening) where
  abbrev pub step : State V O → Call → State V O
  step s (incremental room bytes) = incremental_step K o room bytes s
  step s join = join_step s
  step s (leave j) = leave_step o j s
  step s (snapshot j room bytes) = snapshot_step K o j room bytes s
  step s (question i) = s

  abbrev pub run : State V O → List Call → State V O
  run s [] = s
  run s (c ∷ cs) = run (step s c) cs

  -- from the opening over a store on, refused calls and all
  abbrev pub after : Model V O → List Call → State V O
  after store cs = run (opened K o store) cs

abbrev pub shown : {V O : Type 0} → Opening → State V O → ℕ → Shown V
shown o s i =
    let x = s.books (slot_of o i) in let a = standing s.plain.heard x.mark in
    record { sign = a.sign; number = a.number; book = x.value }
