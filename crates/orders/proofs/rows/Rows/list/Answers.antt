use Rattle.std.proofs.Common.{rules}
use Rattle.orders.proofs.Spans.{span_in}
use Rattle.orders.proofs.rows.Rows.list.Goals as goal

pub offset_bounds-self-from : goal.offset_bounds-self-from
offset_bounds-self-from c =
    let s = c.args.self.now in
    let h = span_in c.args.r s.count s.depth _ c.requires c.args.self.now.room in
    search rules

pub slice_bounds-result-end : goal.slice_bounds-result-end
slice_bounds-result-end c =
    let s = c.args.self.now in
    let h = span_in c.args.r s.count s.depth _ c.requires c.args.self.now.room in
    let w = c.args.self.now.within c.args.r c.requires in
    search rules
