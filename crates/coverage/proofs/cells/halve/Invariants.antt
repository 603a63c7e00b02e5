-- the cells to where the loop stands are the higher of two
use Rattle.coverage.specs.Cells.{Filled, higher_of_two}
use Rattle.coverage.proofs.cells.halve.Given as goal

abbrev pub invariant-loop-k : goal.invariant-loop-k
invariant-loop-k l = Filled (higher_of_two l.initial.cells) l.initial.cells l.cells 0 l.k
