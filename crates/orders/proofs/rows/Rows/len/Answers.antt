use Rattle.orders.proofs.Putting.{row-length}
use Rattle.orders.proofs.rows.Rows.len.Goals as goal

pub returns : goal.returns
returns c = record { len = row-length c.args.self.now c.args.r c.requires; room = c.args.self.now.within c.args.r c.requires }
