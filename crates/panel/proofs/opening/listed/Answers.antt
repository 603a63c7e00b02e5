use Rattle.std.proofs.Common.{◌+◌, ◌++◌, length, take, drop, sym, ap, ◌∙◌, arith}
use Rattle.std.proofs.lemmas.List.{length-set}
use Rattle.panel.specs.Opening.{stat_templates}
use Rattle.panel.proofs.Listing.{take-stat, pass_other, stat-room, all_listed}
use Rattle.panel.proofs.opening.listed.Goals as goal
use Rattle.panel.proofs.opening.listed.Goals.{then-is_stat, else-is_stat}

pub offset_bounds-places-count : goal.offset_bounds-places-count
offset_bounds-places-count c = omega (arith, c.loop-t.invariant.1)

pub bounds-places-count : goal.bounds-places-count
bounds-places-count c =
    stat-room c.args.templates.now c.loop-t.places c.loop-t.count c.loop-t.t-index c.t-item.result c.loop-t-test.true c.t-item.is c.loop-t.invariant.2
    (sym c.if-is_stat.ensures) c.requires (omega (arith, c.loop-t.invariant.0, c.loop-t.invariant.1))

pub loop-t-preserved : goal.loop-t-preserved
loop-t-preserved c =
    let ts = c.args.templates.now in
    let found = c.loop-t.places in
    let n = c.loop-t.count in
    let t = c.t-item.result in
    let i = c.loop-t.invariant in
    elim c.if-is_stat.branch [
      | then-is_stat w ↦
          let s = sym c.is_stat.ensures ∙ w.if-is_stat.true in
          let r = stat-room ts found n c.loop-t.t-index t c.loop-t-test.true c.t-item.is i.2 s c.requires (omega (arith, i.0, i.1)) in (
            ap length w.places-is ∙ (length-set found n t.id ∙ i.0),
            omega (arith, w.count-is, r),
            ap (λ z. take z c.if-is_stat.places ++ stat_templates (drop (c.loop-t.t-index + 1) ts)) w.count-is
                ∙ (ap (λ z. take (n + 1) z ++ stat_templates (drop (c.loop-t.t-index + 1) ts)) w.places-is
                ∙ take-stat ts found n c.loop-t.t-index t c.loop-t-test.true c.t-item.is i.2 s (omega (arith, i.0, r))),
          )
      | else-is_stat w ↦
          let s = sym c.is_stat.ensures ∙ w.if-is_stat.false in (
            ap length w.places-is ∙ i.0,
            omega (arith, w.count-is, i.1),
            ap (λ z. take z c.if-is_stat.places ++ stat_templates (drop (c.loop-t.t-index + 1) ts)) w.count-is
                ∙ (ap (λ z. take n z ++ stat_templates (drop (c.loop-t.t-index + 1) ts)) w.places-is
                ∙ pass_other ts found n c.loop-t.t-index t c.loop-t-test.true c.t-item.is i.2 s),
          )
    ]

pub returns : goal.returns
returns c = all_listed c.args.templates.now c.loop-t.places c.loop-t.count c.loop-t.t-index c.loop-t-test.false c.loop-t.invariant.2
