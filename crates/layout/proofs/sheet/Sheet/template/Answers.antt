use Rattle.layout.proofs.Finds.{find_by, find-start, find-behind, find-rest}
use Rattle.layout.proofs.sheet.Sheet.template.Goals as goal

pub returns-in_err-get : goal.returns-in_err-get
returns-in_err-get c =
    let s = c.args.self.now in
    let start = find-start s.templates.items s.first c.args.id c.from.result c.from-start.result s.near c.from.ensures c.from-start.ensures in
    rw c.from_residual.ensures (find-behind s.templates.items _ c.from-start.result c.args.id c.as_slice.ensures.value c.in_err-get.ensures.lookup.0 start)

pub returns : goal.returns
returns c =
    let s = c.args.self.now in
    let start = find-start s.templates.items s.first c.args.id c.from.result c.from-start.result s.near c.from.ensures c.from-start.ensures in
    find_by s.templates.items _ c.args.id _ c.hinted.ensures (find-rest s.templates.items _ _ c.from-start.result c.args.id c.as_slice.ensures.value c.in_ok-get.ensures.lookup.0.2 start)
