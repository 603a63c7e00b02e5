use Rattle.std.proofs.Common.{◌≡◌, ℕ, true, List, take, is_ok, Some, Ok, Err, vec_items, Result, sym, ap, ◌∙◌, rules}
use Rattle.std.proofs.lemmas.Result.{err_from_is_err_and}
use Rattle.layout.specs.declared.kinds.Layout.{Layout}
use Rattle.layout.specs.declared.sheet.Sheet.{Sheet}
use Rattle.layout.specs.Lawful.{find}
use Rattle.packet.specs.declared.fault.FrameFault.{FrameFault}
use Rattle.packet.specs.declared.head.MessageHead.{MessageHead}
use Rattle.packet.specs.Rules.{and_then, message_head, head_check, layout_check, message_check}
use Rattle.packet.proofs.Steps.{message_by_head}
use Rattle.packet.proofs.rules.message_check.Goals as goal

judged : (s : Sheet) (bs : List ℕ) (at : ℕ) (h : MessageHead) (l : Layout) (r : Result (Unit {0}) FrameFault) → is_ok (head_check bs at) ≡ true → h ≡ message_head bs → find (vec_items s.templates) h.template ≡ Some l → r ≡ layout_check (Some l) (take h.length bs) h.block at → and_then r (λ _. Ok h.length) ≡ message_check s bs at
judged s bs at h l r a e b d =
    ap (λ r. and_then r (λ _. Ok h.length)) d
    ∙ (ap (λ o. and_then (layout_check o (take h.length bs) h.block at) (λ _. Ok h.length)) (sym b) ∙ sym (message_by_head s bs at h a e))

pub returns-in_err-layout_check : goal.returns-in_err-layout_check
returns-in_err-layout_check c =
    let p = err_from_is_err_and c.from_residual-in_err-layout_check.result c.from_residual-in_err-layout_check.ensures.1 in
    let said = c.in_ok-length.ensures.value in
    rw (p.1, p.2) (record { bounds = tt; value = judged c.args.sheet.now c.args.part.now.bytes.now c.args.part.now.at c.in_ok-length.field-0 c.in-Some.t.now.layout (Err c.in_err-layout_check.field-0.0) said.0 said.1 c.in-Some.ensures c.in_err-layout_check.ensures })

pub returns-in_ok-layout_check : goal.returns-in_ok-layout_check
returns-in_ok-layout_check c =
    let said = c.in_ok-length.ensures.value in
    record { bounds = search rules; value = judged c.args.sheet.now c.args.part.now.bytes.now c.args.part.now.at c.in_ok-length.field-0 c.in-Some.t.now.layout (Ok tt) said.0 said.1 c.in-Some.ensures c.in_ok-layout_check.ensures }
