use Rattle.std.proofs.Common.{◌≡◌, length}
use Rattle.packet.specs.Rules.{messages_from}
use Rattle.destinations.specs.Counting.{all_noted}
use Rattle.destinations.proofs.counts.Counts.messages.Given as goal

abbrev pub invariant-loop-message : goal.invariant-loop-message
invariant-loop-message l =
    (all_noted l.self.kinds (messages_from l.walk.sheet.now 0 l.walk.rest.now) ≡ all_noted l.initial.self.kinds (messages_from l.initial.walk.sheet.now 0 l.initial.walk.rest.now))
    × (l.self.refusals ≡ l.initial.self.refusals)

abbrev pub decreases-loop-message : goal.decreases-loop-message
decreases-loop-message l = length (messages_from l.walk.sheet.now 0 l.walk.rest.now)
