use Rattle.std.proofs.Common.{◌-◌, length}
use Rattle.books.proofs.source.drain.Given as goal

abbrev pub decreases-loop-frame : goal.decreases-loop-frame
decreases-loop-frame g l = length l.window.part.bytes.now - l.window.at
