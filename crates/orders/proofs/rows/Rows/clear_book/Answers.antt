use Rattle.orders.proofs.BothSides.{both-put}
use Rattle.orders.proofs.rows.Rows.clear_book.Goals as goal

pub returns : goal.returns
returns c = both-put c.args.self.now _ c.args.book c.requires c.clear.new.self _ _ c.clear.ensures c.clear-2.ensures
