use Rattle.std.proofs.Common.{rules}
use Rattle.sheet_text.proofs.Listed.{count_by-missing}
use Rattle.sheet_text.proofs.follows.TemplateLines.count_missing.Goals as goal

pub returns : goal.returns
returns c = rw (← count_by-missing) (search rules)
