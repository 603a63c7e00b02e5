use Rattle.std.proofs.Common.{◌≡◌, length}
use Rattle.packet.specs.Rules.{messages_from}
use Rattle.settling.specs.Watched.{watch_of}
use Rattle.settling.specs.Passes.{feeds}
use Rattle.settling.specs.Each.{Meets}
use Rattle.settling.proofs.steps.walk.Given as goal

abbrev pub invariant-loop-m : goal.invariant-loop-m
invariant-loop-m g l =
    let m = g.S.Store in
    Meets (m.kind (m.setup l.initial.store)) (watch_of l.w) (feeds l.n (messages_from l.initial.walk.sheet.now 0 l.initial.walk.rest.now)) (feeds l.n (messages_from l.walk.sheet.now 0 l.walk.rest.now)) l.initial.marks.at (m.model l.initial.store) l.marks.at (m.model l.store)
    × (m.setup l.store ≡ m.setup l.initial.store)

abbrev pub decreases-loop-m : goal.decreases-loop-m
decreases-loop-m g l = length (messages_from l.walk.sheet.now 0 l.walk.rest.now)
