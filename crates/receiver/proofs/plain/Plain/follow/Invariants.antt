use Rattle.std.proofs.Common.{◌≡◌, true, length}
use Rattle.packet.specs.Rules.{messages_from}
use Rattle.settling.specs.Watched.{watch_of}
use Rattle.receiver.specs.Standings.{opening_of, state_in, attended}
use Rattle.receiver.proofs.Telling.{Ahead}
use Rattle.receiver.proofs.plain.Plain.follow.Given as goal

abbrev pub invariant-loop-m : goal.invariant-loop-m
invariant-loop-m g l =
    let m = g.S.Store in let K = m.kind (m.setup l.initial.store) in
    Ahead K (opening_of l.sub) l.adoptions (messages_from l.initial.walk.sheet.now 0 l.initial.walk.rest.now) (messages_from l.walk.sheet.now 0 l.walk.rest.now)
    (state_in K l.sub l.initial.self (m.model l.initial.store) l.shelf.bytes.now) (state_in K l.sub l.self (m.model l.store) l.shelf.bytes.now)
    × (attended (watch_of l.sub.watch) l.self.pending ≡ true)
    × (m.setup l.store ≡ m.setup l.initial.store)

abbrev pub decreases-loop-m : goal.decreases-loop-m
decreases-loop-m g l = length (messages_from l.walk.sheet.now 0 l.walk.rest.now)
