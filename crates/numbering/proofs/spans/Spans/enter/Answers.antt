use Rattle.std.proofs.Common.{is_ok, refl, ap, ◌∙◌, arith}
use Rattle.numbering.specs.Spans.{rising}
use Rattle.numbering.proofs.Places.{rises_since, rising-since, here-is, touches-above}
use Rattle.numbering.proofs.Enters.{entered-lower, entered-alone, above-none, above-here, rising_either}
use Rattle.numbering.proofs.spans.Spans.enter.Goals as goal
use Rattle.numbering.proofs.spans.Spans.enter.Goals.{then-p-len+else-low-n+else-n-low, else-p-len}

pub extend-requires : goal.extend-requires
extend-requires c =
    let xs = c.args.self.now.list.items in
    let here = here-is xs c.args.p c.len.result c.index.result.now c.index.ensures c.if-p-len.true (omega (arith, c.len.ensures, c.args.self.now.list.ok.0)) in
    record {
      within = omega (arith, c.if-p-len.true, c.len.ensures);
      before = c.requires.before;
      here = here;
      touches = touches-above xs c.args.p c.args.n c.index.result.now c.requires.before c.requires.behind here c.requires.absent c.if-low-n.true;
    }

pub returns-then-n-low : goal.returns-then-n-low
returns-then-n-low c =
    let xs = c.args.self.now.list.items in
    let here = here-is xs c.args.p c.len.result c.index.result.now c.index.ensures c.if-p-len.true (omega (arith, c.len.ensures, c.args.self.now.list.ok.0)) in
    entered-lower xs _ c.args.p c.args.n c.index.result.now (rises_since 0 c.args.self.now.list.items c.args.self.now.rises) c.requires.before here c.if-n-low.true c.replace.ensures

pub returns : goal.returns
returns c =
    let xs = c.args.self.now.list.items in
    entered-alone xs _ c.args.p c.args.n (rises_since 0 c.args.self.now.list.items c.args.self.now.rises) c.requires.before
    (elim c.if-p-len.branch [
      | then-p-len+else-low-n+else-n-low w ↦
          (let here = here-is xs c.args.p c.len.result w.index.result.now w.index.ensures w.if-p-len.true (omega (arith, c.len.ensures, c.args.self.now.list.ok.0)) in
          above-here c.args.n c.args.p w.index.result.now xs _ here (grind (arith, w.if-low-n.false, w.if-n-low.false)))
      | else-p-len w ↦ above-none c.args.n c.args.p xs (omega (arith, w.if-p-len.false, c.len.ensures, c.args.self.now.list.ok.0))
    ])
    c.in_ok-insert.ensures.items

pub invariant_of-self : goal.invariant_of-self
invariant_of-self c =
    let xs = c.args.self.now.list.items in
    let here = here-is xs c.args.p c.len.result c.index.result.now c.index.ensures c.if-p-len.true (omega (arith, c.len.ensures, c.args.self.now.list.ok.0)) in
    record { rises = rising-since 0 c.replace.new.spans.items (entered-lower xs _ c.args.p c.args.n c.index.result.now (rises_since 0 c.args.self.now.list.items c.args.self.now.rises) c.requires.before here c.if-n-low.true c.replace.ensures).0 }

pub invariant_of-self-2 : goal.invariant_of-self-2
invariant_of-self-2 c =
    let xs = c.args.self.now.list.items in
    let entered =
    entered-alone xs _ c.args.p c.args.n (rises_since 0 c.args.self.now.list.items c.args.self.now.rises) c.requires.before
    (elim c.if-p-len.branch [
      | then-p-len+else-low-n+else-n-low w ↦
          (let here = here-is xs c.args.p c.len.result w.index.result.now w.index.ensures w.if-p-len.true (omega (arith, c.len.ensures, c.args.self.now.list.ok.0)) in
          above-here c.args.n c.args.p w.index.result.now xs _ here (grind (arith, w.if-low-n.false, w.if-n-low.false)))
      | else-p-len w ↦ above-none c.args.n c.args.p xs (omega (arith, w.if-p-len.false, c.len.ensures, c.args.self.now.list.ok.0))
    ])
    refl
    in
    record { rises = ap (λ l. rising 0 l) c.insert.ensures.items ∙ rising_either (is_ok c.insert.result) _ xs (rising-since 0 _ entered.0) c.args.self.now.rises }
