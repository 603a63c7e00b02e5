use Rattle.std.proofs.Common.{◌≡◌, true, length}
use Rattle.message.specs.Meaning.{parts}
use Rattle.settling.specs.Watched.{watch_of}
use Rattle.receiver.specs.Standings.{opening_of, state_in, attended}
use Rattle.receiver.proofs.Telling.{ToCome}
use Rattle.receiver.proofs.plain.Plain.grow_all.Given as goal

abbrev pub invariant-loop-e : goal.invariant-loop-e
invariant-loop-e g l =
    let m = g.S.Store in let K = m.kind (m.setup l.initial.store) in
    ToCome K (opening_of l.sub) l.i l.l (parts l.initial.entries.size l.initial.entries.left l.initial.entries.rest.now) (parts l.entries.size l.entries.left l.entries.rest.now)
    (state_in K l.sub l.initial.self (m.model l.initial.store) l.shelf.bytes.now) (state_in K l.sub l.self (m.model l.store) l.shelf.bytes.now)
    × (attended (watch_of l.sub.watch) l.self.pending ≡ true)
    × (m.setup l.store ≡ m.setup l.initial.store)

abbrev pub decreases-loop-e : goal.decreases-loop-e
decreases-loop-e g l = length (parts l.entries.size l.entries.left l.entries.rest.now)
