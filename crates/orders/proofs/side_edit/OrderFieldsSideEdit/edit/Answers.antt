use Rattle.std.proofs.Common.{sym, ◌∙◌}
use Rattle.orders.proofs.Messages.{order_change}
use Rattle.orders.proofs.side_edit.OrderFieldsSideEdit.edit.Goals as goal

pub returns-then-self-from-2 : goal.returns-then-self-from-2
returns-then-self-from-2 c =
    let l = order_change c.args.rows.now c.change.new.self c.args.r c.change.result c.requires c.args.a c.args.self.now
    (λ e. c.if-self-from.false (e ∙ sym c.from.ensures)) (c.if-self-from-2.true ∙ c.from-2.ensures) c.change.ensures.fits c.change.ensures.puts in
    record { fits = l.0; puts = l.1 }
