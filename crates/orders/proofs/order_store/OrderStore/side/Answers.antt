use Rattle.std.proofs.Common.{◌∙◌}
use Rattle.orders.proofs.Showing.{none-shown, row-shown}
use Rattle.orders.proofs.order_store.OrderStore.side.Goals as goal

pub returns-then-slot-self : goal.returns-then-slot-self
returns-then-slot-self c = none-shown c.args.self.now c.args.slot c.args.side c.if-slot-self.true

pub returns : goal.returns
returns c = c.list.ensures ∙ row-shown c.args.self.now c.args.slot c.row_at.result c.args.side c.if-slot-self.false c.row_at.ensures
