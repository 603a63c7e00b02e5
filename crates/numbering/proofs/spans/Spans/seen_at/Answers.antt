use Rattle.std.proofs.Common.{◌+◌, ◌<◌, [], length, get_or, refl, arith}
use Rattle.std.proofs.lemmas.List.{drop_more, drop_all}
use Rattle.numbering.proofs.Places.{rises_since, here-is, below_all, late_below, repeated-in, new-above, late-between, near-here}
use Rattle.numbering.proofs.spans.Spans.seen_at.Goals as goal

pub returns-then-p-len : goal.returns-then-p-len
returns-then-p-len c =
    let xs = c.args.self.now.list.items in
    below_all c.args.p c.args.n xs [] c.requires.before (drop_all c.args.p xs (omega (arith, c.if-p-len.true, c.len.ensures, c.args.self.now.list.ok.0))) (λ m le. refl)

pub returns-then-n-low : goal.returns-then-n-low
returns-then-n-low c =
    let p = c.args.p in
    let xs = c.args.self.now.list.items in
    let e = here-is xs p c.len.result c.index.result.now c.index.ensures (grind (arith, c.requires.within, c.len.ensures, c.if-p-len.false)) (omega (arith, c.len.ensures, c.args.self.now.list.ok.0)) in
    late_below xs p c.args.n c.index.result.now (rises_since 0 xs c.args.self.now.rises) c.requires.before e c.if-n-low.true

pub returns-then-n-high : goal.returns-then-n-high
returns-then-n-high c =
    let p = c.args.p in
    let xs = c.args.self.now.list.items in
    let e = here-is xs p c.len.result c.index.result.now c.index.ensures (grind (arith, c.requires.within, c.len.ensures, c.if-p-len.false)) (omega (arith, c.len.ensures, c.args.self.now.list.ok.0)) in
    repeated-in xs p c.args.n c.index.result.now c.requires.before e c.if-n-low.false c.if-n-high.true

pub returns-then-p-len-2 : goal.returns-then-p-len-2
returns-then-p-len-2 c =
    let p = c.args.p in
    let xs = c.args.self.now.list.items in
    let e = here-is xs p c.len.result c.index.result.now c.index.ensures (grind (arith, c.requires.within, c.len.ensures, c.if-p-len.false)) (omega (arith, c.len.ensures, c.args.self.now.list.ok.0)) in
    new-above xs p c.args.n c.index.result.now c.requires.before e (omega (arith, c.if-p-len-2.true, c.len-2.ensures, c.args.self.now.list.ok.0)) c.if-n-high.false

pub returns-else-p-len-2 : goal.returns-else-p-len-2
returns-else-p-len-2 c =
    let p = c.args.p in
    let xs = c.args.self.now.list.items in
    let s = c.index.result.now in
    let lt : p < c.len.result = grind (arith, c.requires.within, c.len.ensures, c.if-p-len.false) in
    let long = c.args.self.now.list.ok.0 in
    let e = here-is xs p c.len.result s c.index.ensures lt (omega (arith, c.len.ensures, long)) in
    let lt1 : p + 1 < length xs = grind (arith, lt, long, c.len.ensures, c.len-2.ensures, c.if-p-len-2.false) in
    late-between xs p c.args.n s (get_or xs (p + 1) s) (rises_since 0 xs c.args.self.now.rises) c.requires.before e (drop_more xs (p + 1) s lt1) c.if-n-high.false (near-here xs p c.args.n s c.requires.behind e)
