use Rattle.std.proofs.Common.{arith}
use Rattle.coverage.proofs.Ends.{turned_more}
use Rattle.coverage.proofs.coverage.Coverage.finish.Goals as goal

pub loop-band-preserved : goal.loop-band-preserved
loop-band-preserved c =
    turned_more _ c.loop-band.band-items c.loop-band.band-index _ c.band-item.result _ (omega (arith, c.loop-band.invariant.number)) c.turn.ensures c.loop-band.invariant
