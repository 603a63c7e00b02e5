use Rattle.recovery.proofs.Recovers.{recovers}
use Rattle.recovery.proofs.Presents.{guaranteed}
use Rattle.recovery.proofs.guarantee.recovery_stands.Goals as goal

pub returns : goal.returns
returns g c = record {
  parts = c.parts.ensures;
  guarantee = λ o. recovers (g.S.Store.kind o) (g.S.Store.Image o) (g.S.Store.image o);
  present = λ o opening s i. guaranteed (g.S.Store.kind o) (g.S.Store.Image o) (g.S.Store.image o) opening s i;
}
