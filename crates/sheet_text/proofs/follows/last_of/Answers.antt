use Rattle.std.proofs.Common.{◌∙◌}
use Rattle.sheet_text.proofs.Listed.{slice_get-last}
use Rattle.sheet_text.proofs.follows.last_of.Goals as goal

pub returns : goal.returns
returns c = c.copied.ensures ∙ (c.last.ensures.value ∙ slice_get-last c.args.lines.now)
