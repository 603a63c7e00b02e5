use Rattle.std.proofs.Common.{◌≡◌, length}
use Rattle.packet.specs.Rules.{messages_from}
use Rattle.settling.specs.Watched.{watch_of}
use Rattle.changes.specs.Naming.{latest_after, deepest_after}
use Rattle.changes.proofs.named.Named.note.Given as goal

abbrev pub invariant-loop-message : goal.invariant-loop-message
invariant-loop-message l =
    (latest_after (watch_of l.watch) l.self.latest (messages_from l.walk.sheet.now 0 l.walk.rest.now) l.number ≡ latest_after (watch_of l.watch) l.initial.self.latest (messages_from l.initial.walk.sheet.now 0 l.initial.walk.rest.now) l.number)
    × (deepest_after (watch_of l.watch) l.self.deepest (messages_from l.walk.sheet.now 0 l.walk.rest.now) ≡ deepest_after (watch_of l.watch) l.initial.self.deepest (messages_from l.initial.walk.sheet.now 0 l.initial.walk.rest.now))

abbrev pub decreases-loop-message : goal.decreases-loop-message
decreases-loop-message l = length (messages_from l.walk.sheet.now 0 l.walk.rest.now)
