use Rattle.std.proofs.Common.{length}
use Rattle.sheet_text.proofs.Progress.{Reads}
use Rattle.sheet_text.proofs.reading.read_fields.Given as goal

abbrev pub invariant-loop-rest : goal.invariant-loop-rest
invariant-loop-rest l = Reads l.text l.rest l.lines l.n

abbrev pub decreases-loop-rest : goal.decreases-loop-rest
decreases-loop-rest l = length l.rest
