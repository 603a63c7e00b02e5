use Rattle.std.proofs.Common.{get_or, sym, ◌∙◌, arith}
use Rattle.sheet_text.proofs.Figures.{figure-step, figure-within, figure-all}
use Rattle.sheet_text.proofs.text.figures.Goals as goal

pub returns-in_err-n : goal.returns-in_err-n
returns-in_err-n c =
    let step = figure-step c.args.most c.loop-d.n c.loop-d.d-index c.with_figure.result c.args.word.now c.loop-d-test.true c.with_figure.ensures in
    rw (c.from_residual.ensures, ← c.loop-d.invariant.same, step, c.in_err-n.was)

pub loop-d-preserved : goal.loop-d-preserved
loop-d-preserved c =
    let step = figure-step c.args.most c.loop-d.n c.loop-d.d-index c.with_figure.result c.args.word.now c.loop-d-test.true c.with_figure.ensures in
    record {
      same = sym (rw c.in_ok-n.was at step) ∙ c.loop-d.invariant.same;
      within = figure-within c.args.most c.loop-d.n (get_or c.args.word.now c.loop-d.d-index 0) c.in_ok-n.n (sym c.with_figure.ensures ∙ c.in_ok-n.was);
    }

pub returns : goal.returns
returns c = sym (figure-all c.args.most c.loop-d.n c.loop-d.d-index c.args.word.now (omega arith) c.loop-d.invariant.within) ∙ c.loop-d.invariant.same
