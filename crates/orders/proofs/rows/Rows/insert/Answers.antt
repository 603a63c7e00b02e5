use Rattle.std.proofs.Common.{◌≡◌, ℕ, ◌+◌, ◌-◌, ◌*◌, get_or, take, sym, refl, ap, ◌∙◌, arith, rules}
use Rattle.positions.specs.Positions.{fits_insert, inserted_at}
use Rattle.positions.proofs.Bounds.{insert_bounds}
use Rattle.orders.proofs.Putting.{row-length, part_length, part_row, part_puts, part_same}
use Rattle.orders.proofs.rows.Rows.insert.Goals as goal

pub returns-then-insert : goal.returns-then-insert
returns-then-insert c =
    let s = c.args.self.now in
    let r = c.args.r in
    let n = get_or s.lens r 0 in
    let p = c.args.p in
    let k : ℕ = r * s.depth + s.depth - r * s.depth in
    let w : r * s.depth + s.depth - r * s.depth ≡ s.depth = omega arith in
    let i = c.requires in
    let f = c.if-insert.ensures.fits in
    let b = insert_bounds _ n p (sym f) in
    let y = part_length s r k i w in
    record {
      fits = f ∙ (ap (λ z. fits_insert z n p) y ∙ ap (λ z. fits_insert s.depth z p) (row-length s r i));
      puts = part_puts s r k i w _ c.insert.new.table (search rules) refl refl refl (n + 1) _ (omega (arith, b.2, y)) refl
          (c.insert.ensures.list c.if-insert.true ∙ ap (λ z. inserted_at z p c.args.x) (part_row s r k i w));
    }

pub returns : goal.returns
returns c =
    let s = c.args.self.now in
    let r = c.args.r in
    let n = get_or s.lens r 0 in
    let p = c.args.p in
    let k : ℕ = r * s.depth + s.depth - r * s.depth in
    let w : r * s.depth + s.depth - r * s.depth ≡ s.depth = omega arith in
    let i = c.requires in
    let y = part_length s r k i w in
    record {
      fits = c.if-insert.ensures.fits ∙ (ap (λ z. fits_insert z n p) y ∙ ap (λ z. fits_insert s.depth z p) (row-length s r i));
      puts = part_same s r k i w _ c.insert.new.table (search rules) refl refl refl _ refl
          (ap (λ z. take n z) (c.insert.ensures.refused c.if-insert.false) ∙ part_row s r k i w);
    }
