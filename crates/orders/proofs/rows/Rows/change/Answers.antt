use Rattle.std.proofs.Common.{◌≡◌, ℕ, ◌+◌, ◌-◌, ◌*◌, get_or, take, refl, ap, ◌∙◌, arith, rules}
use Rattle.positions.specs.Positions.{fits_change, changed_at}
use Rattle.orders.proofs.Putting.{row-length, part_length, part_row, part_same, either}
use Rattle.orders.proofs.rows.Rows.change.Goals as goal

pub returns : goal.returns
returns c =
    let s = c.args.self.now in
    let r = c.args.r in
    let n = get_or s.lens r 0 in
    let p = c.args.p in
    let k : ℕ = r * s.depth + s.depth - r * s.depth in
    let w : r * s.depth + s.depth - r * s.depth ≡ s.depth = omega arith in
    let i = c.requires in
    let y = part_length s r k i w in
    record {
      fits = c.change.ensures.fits ∙ (ap (λ z. fits_change z n p) y ∙ ap (λ z. fits_change s.depth z p) (row-length s r i));
      puts = part_same s r k i w _ c.change.new.table (search rules) refl refl refl _ refl
          (either c.change.result _ _ _
          (λ yes. c.change.ensures.list yes ∙ ap (λ z. changed_at z p c.args.x) (part_row s r k i w))
          (λ no. ap (λ z. take n z) (c.change.ensures.refused no) ∙ part_row s r k i w));
    }
