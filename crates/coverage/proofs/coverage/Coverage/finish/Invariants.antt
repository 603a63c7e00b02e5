use Rattle.coverage.proofs.Ends.{TurnedBelow}
use Rattle.coverage.proofs.coverage.Coverage.finish.Given as goal

abbrev pub invariant-loop-band : goal.invariant-loop-band
invariant-loop-band l = TurnedBelow l.initial.band-items l.band-items l.band-index l.next
