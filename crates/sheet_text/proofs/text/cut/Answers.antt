use Rattle.std.proofs.Common.{sym, ◌∙◌}
use Rattle.sheet_text.proofs.Cuts.{cut_absent, cut-present}
use Rattle.sheet_text.proofs.text.cut.Goals as goal

pub returns-in_err-at : goal.returns-in_err-at
returns-in_err-at c = rw c.from_residual.ensures (cut_absent c.args.b c.args.s.now (sym c.place_of.ensures ∙ c.in_err-at.was))

pub returns : goal.returns
returns c = cut-present c.args.b c.args.s.now c.in_ok-at.at (sym c.place_of.ensures ∙ c.in_ok-at.was)
