use Rattle.std.proofs.Common.{ℕ, ◌+◌, ◌/◌, List, sym, ap, ◌∙◌, subst, inr, arith}
use Rattle.std.proofs.lemmas.List.{with_items_is}
use Rattle.coverage.specs.Cells.{Lifted}
use Rattle.coverage.specs.Notes.{Tells, noting}
use Rattle.coverage.proofs.Columns.{tells-noting, room-to_double, halves, div_mono}
use Rattle.coverage.proofs.levels.Levels.note.Goals as goal

pub widen-requires : goal.widen-requires
widen-requires c = room-to_double c.args.high c.loop-self.self.width (omega arith) (omega arith)

pub loop-self-smaller : goal.loop-self-smaller
loop-self-smaller c =
    let e = ap (λ w. c.args.high / w) c.widen.ensures.width ∙ halves c.args.high c.loop-self.self.width in
    omega arith

pub loop-self-preserved : goal.loop-self-preserved
loop-self-preserved c =
    let e = ap (λ w. c.args.high / w) c.widen.ensures.width ∙ halves c.args.high c.loop-self.self.width in
    (λ notes told. c.widen.ensures.told notes (c.loop-self.invariant.0 notes told), inr (omega arith))

pub lift-requires : goal.lift-requires
lift-requires c =
    let le = div_mono c.args.low c.args.high c.loop-self.self.width c.loop-self.self.wide (omega arith) in
    (omega arith, omega (arith, c.as_mut_slice.ensures.len, c.loop-self.self.full))

pub returns : goal.returns
returns c =
    let width = c.loop-self.self.width in
    let L : List ℕ → Type 0 = λ l. Lifted l c.lift.new.cells (c.args.low / width) (c.args.high / width + 1) c.args.level in
    let lifted = subst L c.as_mut_slice.ensures.value c.lift.ensures in
    record {
      told =
          λ notes told.
          let P : List ℕ → Type 0 = λ l. Tells (noting c.args.low c.args.high c.args.level notes) width l in
          subst P (sym (with_items_is c.loop-self.self.cells c.lift.new.cells (omega (arith, c.as_mut_slice.ensures.len, c.lift.auto.cells))))
          (tells-noting notes width c.args.low c.args.high c.args.level _ _ c.loop-self.self.wide (omega arith) c.loop-self-test.false lifted (c.loop-self.invariant.0 notes told));
      width = c.loop-self.invariant.1;
    }
