use Rattle.orders.proofs.BothSides.{copied_book}
use Rattle.orders.proofs.rows.Rows.copy_book.Goals as goal

pub returns : goal.returns
returns c = copied_book c.args.self.now c.copy.new.self _ c.args.from c.args.to c.requires.0 c.requires.1 c.copy.ensures c.copy-2.ensures
