use Rattle.std.proofs.Common.{arith, rules}
use Rattle.orders.specs.Rows.{row}
use Rattle.orders.proofs.Spans.{span_in}
use Rattle.orders.proofs.Putting.{row-length}
use Rattle.orders.proofs.Showing.{none_first, none_past, at_row}
use Rattle.orders.proofs.rows.Rows.at.Goals as goal

pub returns-then-position-eq0 : goal.returns-then-position-eq0
returns-then-position-eq0 c = none_first _ _ c.if-position-eq0.true

pub returns-then-position-self : goal.returns-then-position-self
returns-then-position-self c =
    let s = c.args.self.now in
    none_past (row s c.args.r) c.args.position (omega (arith, c.if-position-self.true, row-length s c.args.r c.requires))

pub offset_bounds-self-r-2 : goal.offset_bounds-self-r-2
offset_bounds-self-r-2 c =
    let s = c.args.self.now in
    let h = span_in c.args.r s.count s.depth _ c.requires c.args.self.now.room in
    let w = c.args.self.now.within c.args.r c.requires in
    search rules

pub bounds-self-r-2 : goal.bounds-self-r-2
bounds-self-r-2 c =
    let s = c.args.self.now in
    omega (arith, span_in c.args.r s.count s.depth _ c.requires c.args.self.now.room, c.args.self.now.within c.args.r c.requires, c.if-position-self.false, c.if-position-eq0.false)

pub returns : goal.returns
returns c = at_row c.args.self.now c.args.r c.args.position _ c.requires c.if-position-eq0.false c.if-position-self.false
