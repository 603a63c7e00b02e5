-- A row of calls at the desk, one after the other: what it asks of the machine, what the machine answers along it, and what is
-- left of the shelf's bytes.
use Rattle.std.specs.Prelude.{ℕ, List, [], ◌∷◌, map, Ok, Err, Result}
use Rattle.store.specs.Kind.{Kind}
use Rattle.recovery.specs.State.{Opening, State}
use Rattle.recovery.specs.Calls.{Call, step}
use Rattle.replay.specs.declared.call.Call.{Call as DeskCall}
use Rattle.replay.specs.declared.call.Answer.{Answer}
use Rattle.replay.specs.Requests.{request, shelf_then}
use Rattle.replay.specs.Replies.{reply}

-- the calls of the machine that a row of calls stands for
abbrev pub requests : ℕ → ℕ → List DeskCall → List Call
requests own room row = map (request own room) row

-- the calls of a row that were performed: all, or none where there was no memory for their answers
abbrev pub done : {E : Type 0} → Result (Unit {0}) E → List DeskCall → List DeskCall
done (Ok x) row = row
done (Err e) row = []

module _ {V O : Type 0} (K : Kind V O) (o : Opening) where
  -- each answer is the one of the state that the calls before it have led to
  abbrev pub replies : State V O → List Call → List Answer
  replies s [] = []
  replies s (c ∷ cs) = reply K o s c ∷ replies (step K o s c) cs

  -- the shelf's bytes after a row of calls
  abbrev pub shelf_along : State V O → List Call → List ℕ → List ℕ
  shelf_along s [] shelf = shelf
  shelf_along s (c ∷ cs) shelf = shelf_along (step K o s c) cs (shelf_then o s.plain c shelf)
