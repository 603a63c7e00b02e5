use Rattle.std.proofs.Common.{◌≡◌, ◌+◌, true, take, drop, is_ok, ◌∙◌, sym, refl, ap, subst, arith}
use Rattle.packet.specs.Rules.{walk_check}
use Rattle.packet.proofs.Steps.{front}
use Rattle.packet.proofs.Handed.{handed, short-end, same_layout}
use Rattle.packet.proofs.checked.Walk.next.Goals as goal

pub returns-in_err-length-clause-step : goal.returns-in_err-length-clause-step
returns-in_err-length-clause-step c = rw c.from_residual.ensures (short-end _ _ _ c.args.self.now.whole c.in_err-length.ensures)

pub split_at-requires : goal.split_at-requires
split_at-requires c =
    let h = c.in_ok-length.ensures in
    let f = front _ c.args.self.now.rest.now _ (omega (arith, h.0)) c.args.self.now.whole in
    omega (arith, ap (λ x. x.length) h.1, f.within)

pub invariant_of-self : goal.invariant_of-self
invariant_of-self c =
    let h = c.in_ok-length.ensures in
    let s = c.args.self.now.sheet.now in
    let bs = c.args.self.now.rest.now in
    let at = c.args.self.now.at in
    let f = front s bs at (omega (arith, h.0)) c.args.self.now.whole in
    let n = ap (λ x. x.length) h.1 in
    let near = c.args.self.now.near in
    let back = c.split_at.ensures.back in
    let long = c.split_at.ensures.back_len in
    record {
      whole = subst (λ l. is_ok (walk_check s 0 l (at + c.in_ok-length.field-0.length)) ≡ true) (sym back) (subst (λ k. is_ok (walk_check s 0 (drop k bs) (at + k)) ≡ true) (sym n) f.onward);
      near = omega arith;
    }

pub returns : goal.returns
returns c =
    let h = c.in_ok-length.ensures in
    let long = c.split_at.ensures.back_len in
    record {
      sheet = refl;
      step = handed c.args.self.now.sheet.now c.args.self.now.rest.now c.args.self.now.at c.in_ok-length.field-0 _ c.split_at.result.0.now c.split_at.result.1.now c.args.self.now.whole h.0 h.1 c.split_at.ensures.front c.split_at.ensures.back (same_layout (λ t. t.now.layout) c.template.result _ _ c.told.ensures.1 c.template.ensures) c.told.ensures.0;
      place = omega arith;
    }
