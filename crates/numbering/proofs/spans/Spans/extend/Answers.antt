use Rattle.std.proofs.Common.{◌+◌, arith}
use Rattle.numbering.proofs.Places.{rises_since, rising-since, here-is, next_above}
use Rattle.numbering.proofs.Enters.{entered-between, entered-higher, above-none, above-here}
use Rattle.numbering.proofs.spans.Spans.extend.Goals as goal
use Rattle.numbering.proofs.spans.Spans.extend.Goals.{then-p-len+else-low-n, else-p-len}

pub overflow_sub-low : goal.overflow_sub-low
overflow_sub-low c =
    let xs = c.args.self.now.list.items in
    let next = here-is xs (c.args.p + 1) c.len.result c.index.result.now c.index.ensures c.if-p-len.true (omega (arith, c.len.ensures, c.args.self.now.list.ok.0)) in
    omega (arith, next_above xs c.args.p c.args.span c.index.result.now (rises_since 0 c.args.self.now.list.items c.args.self.now.rises) c.requires.here next)

pub returns-then-low-n : goal.returns-then-low-n
returns-then-low-n c =
    let xs = c.args.self.now.list.items in
    let next = here-is xs (c.args.p + 1) c.len.result c.index.result.now c.index.ensures c.if-p-len.true (omega (arith, c.len.ensures, c.args.self.now.list.ok.0)) in
    let up = next_above xs c.args.p c.args.span c.index.result.now (rises_since 0 c.args.self.now.list.items c.args.self.now.rises) c.requires.here next in
    entered-between xs _ c.args.p c.args.n c.args.span c.index.result.now (rises_since 0 c.args.self.now.list.items c.args.self.now.rises) c.requires.before c.requires.here next c.requires.touches (omega (arith, up, c.if-low-n.true)) c.unite.ensures

pub returns : goal.returns
returns c =
    let xs = c.args.self.now.list.items in
    entered-higher xs _ c.args.p c.args.n c.args.span (rises_since 0 c.args.self.now.list.items c.args.self.now.rises) c.requires.before c.requires.here c.requires.touches
    (elim c.if-p-len.branch [
      | then-p-len+else-low-n w ↦
          (let next = here-is xs (c.args.p + 1) c.len.result w.index.result.now w.index.ensures w.if-p-len.true (omega (arith, c.len.ensures, c.args.self.now.list.ok.0)) in
          let up = next_above xs c.args.p c.args.span w.index.result.now (rises_since 0 c.args.self.now.list.items c.args.self.now.rises) c.requires.here next in
          above-here c.args.n (c.args.p + 1) w.index.result.now xs _ next (grind (arith, up, c.requires.touches, w.if-low-n.false)))
      | else-p-len w ↦ above-none c.args.n (c.args.p + 1) xs (omega (arith, w.if-p-len.false, c.len.ensures, c.args.self.now.list.ok.0))
    ])
    c.replace.ensures

pub invariant_of-self : goal.invariant_of-self
invariant_of-self c =
    let xs = c.args.self.now.list.items in
    let next = here-is xs (c.args.p + 1) c.len.result c.index.result.now c.index.ensures c.if-p-len.true (omega (arith, c.len.ensures, c.args.self.now.list.ok.0)) in
    let up = next_above xs c.args.p c.args.span c.index.result.now (rises_since 0 c.args.self.now.list.items c.args.self.now.rises) c.requires.here next in
    record { rises = rising-since 0 c.unite.new.spans.items (entered-between xs _ c.args.p c.args.n c.args.span c.index.result.now (rises_since 0 c.args.self.now.list.items c.args.self.now.rises) c.requires.before c.requires.here next c.requires.touches (omega (arith, up, c.if-low-n.true)) c.unite.ensures).0 }

pub invariant_of-self-2 : goal.invariant_of-self-2
invariant_of-self-2 c =
    let xs = c.args.self.now.list.items in
    record {
      rises = rising-since 0 c.replace.new.spans.items (entered-higher xs _ c.args.p c.args.n c.args.span (rises_since 0 c.args.self.now.list.items c.args.self.now.rises) c.requires.before c.requires.here c.requires.touches
          (elim c.if-p-len.branch [
            | then-p-len+else-low-n w ↦
                (let next = here-is xs (c.args.p + 1) c.len.result w.index.result.now w.index.ensures w.if-p-len.true (omega (arith, c.len.ensures, c.args.self.now.list.ok.0)) in
                let up = next_above xs c.args.p c.args.span w.index.result.now (rises_since 0 c.args.self.now.list.items c.args.self.now.rises) c.requires.here next in
                above-here c.args.n (c.args.p + 1) w.index.result.now xs _ next (grind (arith, up, c.requires.touches, w.if-low-n.false)))
            | else-p-len w ↦ above-none c.args.n (c.args.p + 1) xs (omega (arith, w.if-p-len.false, c.len.ensures, c.args.self.now.list.ok.0))
          ])
          c.replace.ensures).0;
    }
