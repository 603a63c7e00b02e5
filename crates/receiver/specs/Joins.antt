-- What a join, a leave and a question answer, and what they leave of the plain part.
use Rattle.std.specs.Prelude.{ℕ, true, false, None, Ok, Err, Result, slice_index_or}
use Rattle.packet.specs.Rules.{and_then}
use Rattle.recovery.specs.declared.answers.Standing.{Standing}
use Rattle.recovery.specs.declared.fault.StreamFault.{StreamFault}
use Rattle.recovery.specs.declared.marks.Mark.TheVariants.{Stale}
use Rattle.recovery.specs.State.{slot_of, Plain as PlainState}
use Rattle.recovery.specs.Answers.{join_check, present_join, question_check, standing}
use Rattle.receiver.specs.declared.subscription.Subscription.{Subscription}
use Rattle.receiver.specs.declared.plain.Plain.{Plain}
use Rattle.receiver.specs.declared.join.Join.{Join}
use Rattle.receiver.specs.declared.join.Left.{Left}
use Rattle.receiver.specs.Standings.{opening_of}

-- a join carries the receiver's number
abbrev pub join_answer : Subscription → PlainState → Result Join StreamFault
join_answer u p = and_then (join_check p) (λ _. Ok (record { own = u.own }))

abbrev pub joining : Plain → Plain
joining p = record { places = p.places; marks = p.marks; joined = true; followed = p.followed; pending = p.pending }

-- leaving closes the open group and forgets the loop
abbrev pub leaving : Plain → Plain
leaving p = record { places = p.places; marks = p.marks; joined = false; followed = None; pending = None }

-- a leave that is refused hands the join back
abbrev pub hand_back : Join → Result (Unit {0}) StreamFault → Result (Unit {0}) Left
hand_back j (Ok x) = Ok x
hand_back j (Err e) = Err (record { join = j; fault = e })

abbrev pub leave_answer : Subscription → PlainState → Join → Result (Unit {0}) Left
leave_answer u p j = hand_back j (present_join (opening_of u) p j.own)

-- the standing of a watched instrument
abbrev pub standing_of : Subscription → Plain → ℕ → Result Standing StreamFault
standing_of u p i = and_then (question_check (opening_of u) i) (λ _. Ok (standing p.places.heard (slice_index_or p.marks.at (slot_of (opening_of u) i) Stale)))

-- the slot of a watched instrument
abbrev pub slot_answer : Subscription → ℕ → Result ℕ StreamFault
slot_answer u i = and_then (question_check (opening_of u) i) (λ _. Ok (slot_of (opening_of u) i))
