use Rattle.figures.proofs.Same.{books, told}
use Rattle.figures.proofs.figures.Figures.is_new.Goals as goal

pub returns : goal.returns
returns c = let as_told = told _ _ c.args.told c.args.self.now books c.ne.ensures in record { new = as_told.0; same = as_told.1 }
