use Rattle.std.proofs.Common.{◌+◌, ◌*◌, get_or, take, drop, refl, ap, ◌∙◌, arith, rules}
use Rattle.std.proofs.lemmas.List.{take-set-le, drop-set-lt, drop-set-add, take_more_set, length-drop}
use Rattle.orders.proofs.Spans.{span_in}
use Rattle.orders.proofs.Putting.{row-length, puts}
use Rattle.orders.proofs.rows.Rows.push.Goals as goal

pub offset_bounds-self-end : goal.offset_bounds-self-end
offset_bounds-self-end c =
    let h = span_in c.args.r c.args.self.now.count c.args.self.now.depth _ c.requires.0 c.args.self.now.room in
    let l = row-length c.args.self.now c.args.r c.requires.0 in
    search rules

pub bounds-self-end : goal.bounds-self-end
bounds-self-end c =
    let s = c.args.self.now in
    let l = row-length s c.args.r c.requires.0 in
    omega (arith, span_in c.args.r s.count s.depth _ c.requires.0 c.args.self.now.room, l, c.requires.1)

pub returns : goal.returns
returns c =
    let s = c.args.self.now in
    let r = c.args.r in
    let n = get_or s.lens r 0 in
    let t = s.table.now in
    let x = c.args.x in
    let a = r * s.depth in
    let l = row-length s r c.requires.0 in
    let m = span_in r s.count s.depth _ c.requires.0 c.args.self.now.room in
    puts s _ r (n + 1) _ c.requires.0 (omega (arith, l, c.requires.1)) refl refl refl
    (take-set-le a t (a + n) x (omega arith))
    (drop-set-lt (a + s.depth) t (a + n) x (omega (arith, l, c.requires.1)))
    (ap (take (n + 1)) (drop-set-add a t n x) ∙ take_more_set (drop a t) n x (omega (arith, l, c.requires.1, m, length-drop a t)))
