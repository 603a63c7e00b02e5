use Rattle.recovery.specs.Pattern.{two_templates}
use Rattle.recovery.proofs.Worked.{worked, points}
use Rattle.recovery.proofs.guarantee.example_stands.Goals as goal

pub returns : goal.returns
returns c = record { runs = c.runs.ensures; worked = worked c.args.sheet.now; points = points (two_templates c.args.sheet.now) }
