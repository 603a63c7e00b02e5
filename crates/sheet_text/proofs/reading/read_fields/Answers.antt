use Rattle.std.proofs.Common.{◌+◌, ◌<◌, length, take, set, sym, ap, ◌∙◌, arith}
use native.Mathlib.Nat.{sub-zero}
use Rattle.std.proofs.lemmas.Bool.{eqb-true, eqb-false}
use Rattle.sheet_text.specs.Sheets.{follows}
use Rattle.sheet_text.specs.Follows.{complete, may_follow}
use Rattle.sheet_text.proofs.Progress.{Reads, reads_none, reads_ill, reads_unfit, reads_more, reads_end, reads-lacking}
use Rattle.sheet_text.proofs.reading.read_fields.Goals as goal

pub loop-rest-init : goal.loop-rest-init
loop-rest-init c = reads_none c.args.text.now c.args.lines.now c.requires

pub returns-in_default : goal.returns-in_default
returns-in_default c =
    let some = eqb-false (length c.loop-rest.rest.now) 0 (sym c.is_empty.ensures ∙ c.loop-rest-test.true) in
    record { answer = reads_ill c.args.text.now c.loop-rest.rest.now c.loop-rest.lines c.loop-rest.n c.loop-rest.invariant (omega arith) c.in_default.ensures.value; found = tt }

pub returns-in_default-field_line : goal.returns-in_default-field_line
returns-in_default-field_line c =
    let unread = ap (follows (take c.loop-rest.n c.loop-rest.lines)) (sym c.in_default-field_line.ensures.value) in
    record { answer = reads_unfit c.args.text.now c.loop-rest.rest.now c.in-Some.line.now _ c.loop-rest.lines c.loop-rest.n c.loop-rest.invariant c.in-Some.ensures.value unread; found = tt }

pub returns-then-not-may_follow : goal.returns-then-not-may_follow
returns-then-not-may_follow c =
    let read = ap (follows (take c.loop-rest.n c.loop-rest.lines)) (sym c.in-Some-field_line.ensures.value) in
    let fits = ap (λ k. may_follow (take k c.loop-rest.lines) c.in-Some-field_line.x) (sym (sub-zero c.loop-rest.n)) ∙ sym c.if-not-may_follow.ensures in
    record { answer = reads_unfit c.args.text.now c.loop-rest.rest.now c.in-Some.line.now _ c.loop-rest.lines c.loop-rest.n c.loop-rest.invariant c.in-Some.ensures.value (read ∙ fits); found = tt }

next : (c : goal.Else-not-may_follow) → Reads c.args.text.now c.in-Some.more.now (set c.loop-rest.lines c.loop-rest.n c.in-Some-field_line.x) (c.loop-rest.n + 1) × (c.loop-rest.n < 320)
next c =
    let fits = ap (λ k. may_follow (take k c.loop-rest.lines) c.in-Some-field_line.x) (sym (sub-zero c.loop-rest.n)) ∙ sym c.if-not-may_follow.ensures in
    reads_more c.args.text.now c.loop-rest.rest.now c.in-Some.more.now c.in-Some.line.now c.in-Some-field_line.x c.loop-rest.lines c.loop-rest.n c.loop-rest.invariant c.in-Some.ensures.value (sym c.in-Some-field_line.ensures.value) c.in-Some-field_line.ensures.sound fits

pub bounds-lines-n : goal.bounds-lines-n
bounds-lines-n c = omega (arith, (next c).1, c.loop-rest.invariant.long)

pub loop-rest-smaller : goal.loop-rest-smaller
loop-rest-smaller c = c.in-Some.ensures.shorter

pub loop-rest-preserved : goal.loop-rest-preserved
loop-rest-preserved c = (next c).0

pub returns-then-not-is_complete : goal.returns-then-not-is_complete
returns-then-not-is_complete c =
    let empty = eqb-true (length c.loop-rest.rest.now) 0 (sym c.is_empty.ensures ∙ c.loop-rest-test.false) in
    let lacking = ap (λ k. complete (take k c.loop-rest.lines)) (sym (sub-zero c.loop-rest.n)) ∙ sym c.if-not-is_complete.ensures in
    record { answer = reads-lacking c.args.text.now c.loop-rest.rest.now c.loop-rest.lines c.loop-rest.n c.loop-rest.invariant empty lacking; found = tt }

pub returns : goal.returns
returns c =
    let empty = eqb-true (length c.loop-rest.rest.now) 0 (sym c.is_empty.ensures ∙ c.loop-rest-test.false) in
    let whole = ap (λ k. complete (take k c.loop-rest.lines)) (sym (sub-zero c.loop-rest.n)) ∙ sym c.if-not-is_complete.ensures in
    let r = c.loop-rest.invariant in
    let end = reads_end c.args.text.now c.loop-rest.rest.now c.loop-rest.lines c.loop-rest.n r empty whole in
    record { answer = end.0; found = (r.within, end.1, r.kept) }
