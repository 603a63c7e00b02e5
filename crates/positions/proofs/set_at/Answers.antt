use Rattle.positions.proofs.Shifts.{set_list, set_rest}
use Rattle.positions.proofs.set_at.Goals as goal

pub returns : goal.returns
returns g c =
    record {
      list = set_list c.args.table.now c.args.n c.args.k c.args.x c.requires.0 c.requires.1;
      rest = set_rest c.args.table.now c.args.n c.args.k c.args.x c.requires.0 c.requires.1;
    }
