use Rattle.std.proofs.Common.{◌<◌, length, add-one, arith}
use Rattle.std.proofs.lemmas.List.{set_split}
use Rattle.numbering.proofs.edit.replace.Goals as goal

pub returns : goal.returns
returns c =
    let lt : c.args.p < length c.args.spans.now.items = omega (arith, c.requires, c.args.spans.now.ok.0) in
    rw add-one (set_split c.args.spans.now.items c.args.p c.args.span lt)
