use Rattle.std.proofs.Common.{◌+◌, ◌-◌, take, drop, ap, ◌∙◌}
use Rattle.positions.proofs.Shifts.{cut_list, cut-rest}
use Rattle.positions.proofs.take_out.Goals as goal

pub returns : goal.returns
returns g c =
    let t = c.args.table.now in
    let n = c.args.n in
    let k = c.args.k in
    let q = c.args.q in
    let e = c.copy_within.ensures.after in
    record {
      list = ap (λ l. take (k + (n - q)) l) e ∙ cut_list t n k q c.requires.0 c.requires.1 c.requires.2;
      rest = ap (λ l. drop n l) e ∙ cut-rest t n k q c.requires.0 c.requires.1 c.requires.2;
    }
