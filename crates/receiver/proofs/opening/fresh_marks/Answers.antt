use Rattle.std.proofs.Common.{◌++◌, get_or, drop, replicate, ap, ◌∙◌}
use Rattle.recovery.specs.declared.marks.Mark.TheVariants.{Stale, AsOf}
use Rattle.receiver.proofs.Fresh.{filled}
use Rattle.receiver.proofs.opening.fresh_marks.Goals as goal

pub returns : goal.returns
returns c q = ap (λ xs. get_or (xs ++ drop c.args.n (replicate 64 Stale)) q Stale) (c.fill.ensures.after (λ y e. e)) ∙ filled c.args.n 64 q (AsOf 0) Stale c.requires
