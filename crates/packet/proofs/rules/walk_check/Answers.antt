use Rattle.std.proofs.Common.{◌+◌, ◌<◌, length, drop, sym, ap, ◌∙◌, arith, length-drop}
use Rattle.std.proofs.lemmas.List.{take_rest, drop-drop}
use Rattle.std.proofs.lemmas.Result.{err_from_is_err_and}
use Rattle.packet.specs.Rules.{message_check, walk_check}
use Rattle.packet.proofs.Walks.{walk_step, walk_stop, walk_end}
use Rattle.packet.proofs.rules.walk_check.Goals as goal

pub returns-in_err-at : goal.returns-in_err-at
returns-in_err-at c =
    let bs = c.args.bytes.now in
    let at = c.loop-at.at in
    let p = err_from_is_err_and c.from_residual.result c.from_residual.ensures.1 in
    let some : 0 < length (drop at bs) = simp length-drop (omega arith) in
    let said = c.in_err-at.ensures.value ∙ ap (λ l. message_check c.args.sheet.now l at) (take_rest bs at) in
    rw (p.1, p.2) (sym (walk_stop _ (drop at bs) at _ some said) ∙ c.loop-at.invariant.2)

pub loop-at-preserved : goal.loop-at-preserved
loop-at-preserved c =
    let bs = c.args.bytes.now in
    let at = c.loop-at.at in
    let n = c.in_ok-at.field-0 in
    let some : 0 < length (drop at bs) = simp length-drop (omega arith) in
    let said = c.in_ok-at.ensures.value ∙ ap (λ l. message_check c.args.sheet.now l at) (take_rest bs at) in
    let bounds = c.in_ok-at.ensures.bounds in
    let long = ap length (take_rest bs at) ∙ length-drop at bs in
    let step = walk_step c.args.sheet.now (drop at bs) at n some (omega arith) said in
    (omega arith, omega arith, sym (step ∙ ap (λ l. walk_check c.args.sheet.now 0 l (at + n)) (drop-drop n at bs)) ∙ c.loop-at.invariant.2)

pub returns : goal.returns
returns c =
    let none = length-drop c.loop-at.at c.args.bytes.now in
    sym (walk_end _ (drop c.loop-at.at c.args.bytes.now) c.loop-at.at (omega arith)) ∙ c.loop-at.invariant.2
