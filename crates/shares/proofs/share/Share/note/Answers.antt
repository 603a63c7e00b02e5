use Rattle.std.proofs.Common.{◌++◌, replicate, sym, subst}
use Rattle.shares.specs.declared.share.Share.{Share}
use Rattle.shares.specs.Stands.{Stands}
use Rattle.shares.proofs.Standing.{noted-stands}
use Rattle.shares.proofs.share.Share.note.Goals as goal

pub returns : goal.returns
returns c = record {
  value = c.count.ensures;
  law = λ marks h.
      subst (λ (s : Share). Stands s (replicate c.args.times c.args.sign ++ marks)) (sym c.count.ensures)
      (noted-stands c.args.self.now c.args.sign c.args.times c.args.from c.args.to marks h);
}
