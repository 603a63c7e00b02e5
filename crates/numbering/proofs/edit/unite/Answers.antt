use Rattle.std.proofs.Common.{◌+◌, ◌<◌, length, ◌∙◌, arith}
use Rattle.numbering.proofs.Enters.{two_for_one}
use Rattle.numbering.proofs.edit.unite.Goals as goal

pub returns : goal.returns
returns c =
    let lt : c.args.p + 1 < length c.args.spans.now.items = omega (arith, c.requires, c.args.spans.now.ok.0) in
    c.remove.ensures.items ∙ two_for_one c.args.spans.now.items c.args.p c.args.span lt
