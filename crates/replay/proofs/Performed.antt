-- A call at the desk, by the call of the machine that it stands for.
use Rattle.std.proofs.Common.{◌≡◌, ℕ, Bool, true, eqb, List, Some, Option, sym, subst, eqb-true}
use Rattle.std.proofs.lemmas.Bool.{and_parts}
use Rattle.store.specs.Kind.{Kind}
use Rattle.recovery.specs.State.{Opening, State}
use Rattle.recovery.specs.Calls.{step}
use Rattle.receiver.specs.declared.join.Join.{Join}
use Rattle.replay.specs.declared.call.Call.{Call}
use Rattle.replay.specs.declared.call.Answer.{Answer}
use Rattle.replay.specs.Tied.{tied}
use Rattle.replay.specs.Requests.{request, shelf_then}
use Rattle.replay.specs.Replies.{reply}

module _ {V O : Type 0} (K : Kind V O) (o : Opening) (own room : ℕ) (s t : State V O) (shelf then : List ℕ) (r : Answer) where
  abbrev pub Performs : Call → Type 0
  Performs x = (r ≡ reply K o s (request own room x)) × (t ≡ step K o s (request own room x)) × (then ≡ shelf_then o s.plain (request own room x) shelf)

  -- what holds of the call that came holds of the one that was made
  pub performed : (x y : Call) → x ≡ y → Performs y → Performs x
  performed x y e h = subst Performs (sym e) h

-- the join that is held carries the receiver's number
pub tied-own : (b : Bool) (own : ℕ) (h : Option Join) (j : Join) → h ≡ Some j → tied b own h ≡ true → j.own ≡ own
tied-own b own h j e k = eqb-true j.own own (and_parts b (eqb j.own own) (subst (λ (x : Option Join). tied b own x ≡ true) e k)).1
