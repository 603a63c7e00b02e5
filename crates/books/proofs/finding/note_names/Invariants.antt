use Rattle.std.proofs.Common.{length}
use Rattle.packet.specs.Rules.{messages_from}
use Rattle.books.proofs.finding.note_names.Given as goal

abbrev pub decreases-loop-message : goal.decreases-loop-message
decreases-loop-message l = length (messages_from l.walk.sheet.now 0 l.walk.rest.now)
