-- the cells to where the loop stands are lifted
use Rattle.coverage.specs.Cells.{Lifted}
use Rattle.coverage.proofs.cells.lift.Given as goal

abbrev pub invariant-loop-cell : goal.invariant-loop-cell
invariant-loop-cell l = Lifted l.initial.lifted l.lifted 0 l.cell-index l.level
