use Rattle.std.proofs.Common.{sym, ◌∙◌}
use Rattle.panel.proofs.Noting.{found_none, found_some}
use Rattle.panel.proofs.notes.number_of.Goals as goal

pub returns-in_err-k : goal.returns-in_err-k
returns-in_err-k c =
    c.from_residual.ensures ∙ found_none c.args.templates.now c.args.numbers.now c.args.template c.requires (sym c.place_of.ensures ∙ c.in_err-k.was)

pub returns : goal.returns
returns c = found_some c.args.templates.now c.args.numbers.now c.args.template c.requires c.in_ok-k.k (sym c.place_of.ensures ∙ c.in_ok-k.was)
