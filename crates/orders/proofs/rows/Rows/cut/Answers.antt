use Rattle.std.proofs.Common.{◌≡◌, ℕ, ◌+◌, ◌-◌, ◌*◌, get_or, take, sym, refl, ap, ◌∙◌, arith, rules}
use Rattle.positions.specs.Positions.{fits_cut, cut_out}
use Rattle.positions.proofs.Bounds.{cut_bounds}
use Rattle.orders.proofs.Putting.{row-length, part_length, part_row, part_puts, part_same}
use Rattle.orders.proofs.rows.Rows.cut.Goals as goal

pub returns-then-cut : goal.returns-then-cut
returns-then-cut c =
    let s = c.args.self.now in
    let r = c.args.r in
    let n = get_or s.lens r 0 in
    let p = c.args.p in
    let k : ℕ = r * s.depth + s.depth - r * s.depth in
    let w : r * s.depth + s.depth - r * s.depth ≡ s.depth = omega arith in
    let i = c.requires in
    let y = part_length s r k i w in
    let q = c.args.q in
    let f = c.if-cut.ensures.fits in
    let b = cut_bounds _ n p q (sym f) in
    record {
      fits = f ∙ (ap (λ z. fits_cut z n p q) y ∙ ap (λ z. fits_cut s.depth z p q) (row-length s r i));
      puts = part_puts s r k i w _ c.cut.new.table (search rules) refl refl refl (p - 1 + (n - q)) _ (omega (arith, b.0, b.1, b.2, b.3, y)) refl
          (c.cut.ensures.list c.if-cut.true ∙ ap (λ z. cut_out z p q) (part_row s r k i w));
    }

pub returns : goal.returns
returns c =
    let s = c.args.self.now in
    let r = c.args.r in
    let n = get_or s.lens r 0 in
    let p = c.args.p in
    let k : ℕ = r * s.depth + s.depth - r * s.depth in
    let w : r * s.depth + s.depth - r * s.depth ≡ s.depth = omega arith in
    let i = c.requires in
    let y = part_length s r k i w in
    let q = c.args.q in
    record {
      fits = c.if-cut.ensures.fits ∙ (ap (λ z. fits_cut z n p q) y ∙ ap (λ z. fits_cut s.depth z p q) (row-length s r i));
      puts = part_same s r k i w _ c.cut.new.table (search rules) refl refl refl _ refl
          (ap (λ z. take n z) (c.cut.ensures.refused c.if-cut.false) ∙ part_row s r k i w);
    }
