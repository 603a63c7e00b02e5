use Rattle.std.proofs.Common.{◌+◌, take, drop, set, ap, ◌∙◌}
use Rattle.positions.proofs.Shifts.{insert_list, insert_rest}
use Rattle.positions.proofs.put_in.Goals as goal

pub returns : goal.returns
returns g c =
    let t = c.args.table.now in
    let n = c.args.n in
    let k = c.args.k in
    let e = c.copy_within.ensures.after in
    record {
      list = ap (λ l. take (n + 1) (set l k c.args.x)) e ∙ insert_list t n k c.args.x c.requires.0 c.requires.1;
      rest = ap (λ l. drop (n + 1) (set l k c.args.x)) e ∙ insert_rest t n k c.args.x c.requires.0 c.requires.1;
    }
