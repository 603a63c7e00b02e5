use Rattle.std.proofs.Common.{arith}
use Rattle.coverage.proofs.Ends.{clear-push}
use Rattle.coverage.proofs.coverage.Coverage.new.Goals as goal

pub loop-preserved : goal.loop-preserved
loop-preserved c =
    let pushed = c.in_ok-push.ensures in
    let len = pushed.len in (
      omega arith,
      clear-push _ _ c.in_ok-new.field-0 _ _ _ c.loop.bands.ok.0 pushed.items pushed.len c.in_ok-new.ensures c.loop.invariant.1,
    )
