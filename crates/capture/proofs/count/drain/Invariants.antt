use Rattle.std.proofs.Common.{◌≡◌, length}
use Rattle.capture.specs.Tally.{tallied}
use Rattle.capture.specs.Walk.{left}
use Rattle.capture.proofs.count.drain.Given as goal

abbrev pub invariant-loop-frame : goal.invariant-loop-frame
invariant-loop-frame l = tallied l.tally (left l.capture) ≡ tallied l.initial.tally (left l.initial.capture)

abbrev pub decreases-loop-frame : goal.decreases-loop-frame
decreases-loop-frame l = length (left l.capture)
