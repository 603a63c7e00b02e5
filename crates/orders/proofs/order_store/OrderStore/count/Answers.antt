use Rattle.std.proofs.Common.{length, ap, ◌∙◌}
use Rattle.orders.proofs.Showing.{none-shown, row-shown}
use Rattle.orders.proofs.order_store.OrderStore.count.Goals as goal

pub returns-then-slot-self : goal.returns-then-slot-self
returns-then-slot-self c = ap length (none-shown c.args.self.now c.args.slot c.args.side c.if-slot-self.true)

pub returns : goal.returns
returns c = c.len.ensures.len ∙ ap length (row-shown c.args.self.now c.args.slot c.row_at.result c.args.side c.if-slot-self.false c.row_at.ensures)
