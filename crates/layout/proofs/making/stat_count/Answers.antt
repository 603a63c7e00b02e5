use Rattle.std.proofs.Common.{rules}
use Rattle.layout.proofs.Counts.{count_by-stats}
use Rattle.layout.proofs.making.stat_count.Goals as goal

pub returns : goal.returns
returns c = rw (← count_by-stats) (search rules)
