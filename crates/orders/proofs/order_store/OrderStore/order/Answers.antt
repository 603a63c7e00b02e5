use Rattle.std.proofs.Common.{ap, ◌∙◌}
use Rattle.orders.specs.Shown.{at_position}
use Rattle.orders.proofs.Showing.{none-of-none, none-shown, row-shown}
use Rattle.orders.proofs.order_store.OrderStore.order.Goals as goal

pub returns-then-slot-self : goal.returns-then-slot-self
returns-then-slot-self c = none-of-none c.args.position ∙ ap (λ xs. at_position xs c.args.position) (none-shown c.args.self.now c.args.slot c.args.side c.if-slot-self.true)

pub returns : goal.returns
returns c = c.at.ensures ∙ ap (λ xs. at_position xs c.args.position) (row-shown c.args.self.now c.args.slot c.row_at.result c.args.side c.if-slot-self.false c.row_at.ensures)
