use Rattle.std.proofs.Common.{[], length, take, drop}
use Rattle.sheet_text.specs.Follows.{firsts, stat_lines}
use Rattle.sheet_text.proofs.Searches.{Counted}
use Rattle.sheet_text.proofs.follows.count_templates.Given as goal

abbrev pub invariant-loop-i : goal.invariant-loop-i
invariant-loop-i l =
    Counted l.all l.stats (length (firsts (take l.i l.lines) (drop l.i l.lines))) (stat_lines (firsts (take l.i l.lines) (drop l.i l.lines))) (length (firsts [] l.lines)) (stat_lines (firsts [] l.lines)) l.i
