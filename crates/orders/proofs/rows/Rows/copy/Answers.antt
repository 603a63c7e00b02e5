use Rattle.std.proofs.Common.{◌≡◌, ℕ, ◌+◌, ◌-◌, ◌*◌, ◌≤◌, length, get_or, take, drop, refl, ap, ◌∙◌, arith}
use Rattle.orders.proofs.Spans.{span_in, copied_here, copied_below, copied_above}
use Rattle.orders.proofs.Putting.{puts}
use Rattle.orders.proofs.rows.Rows.copy.Goals as goal

pub copy_within-requires : goal.copy_within-requires
copy_within-requires c =
    let s = c.args.self.now in
    let h = span_in c.args.from s.count s.depth _ c.requires.0 c.args.self.now.room in
    let l = span_in c.args.to s.count s.depth _ c.requires.1 c.args.self.now.room in
    let w = c.args.self.now.within c.args.from c.requires.0 in
    record { start_le_end = omega arith; in_bounds = omega (arith, h, w); dest_in_bounds = omega (arith, l, w); not_exhausted = tt }

pub returns : goal.returns
returns c =
    let s = c.args.self.now in
    let d = s.depth in
    let t = s.table.now in
    let a : ℕ = c.args.to * s.depth in
    let b : ℕ = c.args.from * s.depth in
    let n : ℕ = get_or s.lens c.args.from 0 in
    let w = c.args.self.now.within c.args.from c.requires.0 in
    let h : b + n ≤ length t = omega (arith, span_in c.args.from s.count s.depth _ c.requires.0 c.args.self.now.room, w) in
    let l : a + n ≤ length t = omega (arith, span_in c.args.to s.count s.depth _ c.requires.1 c.args.self.now.room, w) in
    let k : b + n - b ≡ n = omega arith in
    let e = c.copy_within.ensures.after in
    puts s _ c.args.to n _ c.requires.1 w refl refl refl
    (ap (take a) e ∙ copied_below t a b n _ k h l)
    (ap (drop (a + d)) e ∙ copied_above t a b n _ k h l (a + d) (omega (arith, w)))
    (ap (λ z. take n (drop a z)) e ∙ copied_here t a b n _ k h l)
