use Rattle.std.proofs.Common.{sym, ◌∙◌}
use Rattle.orders.proofs.Messages.{mass_top, mass_bottom}
use Rattle.orders.proofs.side_edit.MassFieldsSideEdit.edit.Goals as goal

pub returns-then-self-from : goal.returns-then-self-from
returns-then-self-from c =
    let l = mass_top c.args.rows.now c.cut.new.self c.args.r c.cut.result c.requires c.args.a c.args.self.now
    (c.if-self-from.true ∙ c.from.ensures) c.cut.ensures.fits c.cut.ensures.puts in
    record { fits = l.0; puts = l.1 }

pub returns-then-self-from-2 : goal.returns-then-self-from-2
returns-then-self-from-2 c =
    let d = c.cut-then-self-from-2 in
    let l = mass_bottom c.args.rows.now d.new.self c.args.r d.result c.requires c.args.a c.args.self.now
    c.len-n.result c.len-n.ensures.len (λ e. c.if-self-from.false (e ∙ sym c.from.ensures)) (c.if-self-from-2.true ∙ c.from-2.ensures) d.ensures.fits d.ensures.puts in
    record { fits = l.0; puts = l.1 }
