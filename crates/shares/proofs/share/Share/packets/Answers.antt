use Rattle.std.proofs.Common.{arith}
use Rattle.shares.proofs.Standing.{all_marks}
use Rattle.shares.proofs.share.Share.packets.Goals as goal

pub returns : goal.returns
returns c = λ marks h few.
    omega (arith, h.currents, h.recoverings, h.stales, all_marks marks, few, c.saturating_add.ensures, c.saturating_add-2.ensures)
