use Rattle.std.proofs.Common.{length}
use Rattle.packet.specs.Rules.{messages_from}
use Rattle.trace.proofs.telling.list_packet.Given as goal

abbrev pub decreases-loop-m : goal.decreases-loop-m
decreases-loop-m l = length (messages_from l.walk.sheet.now 0 l.walk.rest.now)
