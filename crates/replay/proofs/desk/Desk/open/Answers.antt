use Rattle.std.proofs.Common.{not, [], ap}
use Rattle.recovery.specs.State.{State}
use Rattle.replay.proofs.desk.Desk.open.Goals as goal

pub invariant_of-result : goal.invariant_of-result
invariant_of-result g c = record { keeps = ap (λ (s : State g.S.Store.Value g.S.Store.Owed). not s.plain.joined) (c.open-receiver.ensures.state []) }
