use Rattle.speed.proofs.Opens.{passed}
use Rattle.speed.proofs.Task.receive_over.Goals as goal

pub open-store-requires : goal.open-store-requires
open-store-requires c = passed _ _ _ _ c.check_opening.ensures c.in-Ok.is
