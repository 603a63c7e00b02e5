use Rattle.std.proofs.Common.{sym, ◌∙◌}
use Rattle.sheet_text.proofs.Rows.{row_absent, row-present}
use Rattle.sheet_text.proofs.text.next_line.Goals as goal

pub returns-in_err-at-clause-value : goal.returns-in_err-at-clause-value
returns-in_err-at-clause-value c = rw c.from_residual.ensures (row_absent c.args.text.now _ c.min.ensures (sym c.place_of.ensures ∙ c.in_err-at.was))

pub returns-clause-value : goal.returns-clause-value
returns-clause-value c = (row-present c.args.text.now _ c.in_ok-at.at c.min.ensures (sym c.place_of.ensures ∙ c.in_ok-at.was)).1
