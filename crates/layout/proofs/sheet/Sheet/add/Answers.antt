use Rattle.std.proofs.Common.{◌≡◌, ◌≤◌, length, vec_items, vec_capacity, sym, ap, ◌∙◌, arith}
use Rattle.std.proofs.lemmas.List.{length-set}
use Rattle.layout.specs.Lawful.{lawful}
use Rattle.layout.proofs.Adds.{push_few}
use Rattle.layout.proofs.Hints.{near_push}
use Rattle.layout.proofs.sheet.Sheet.add.Goals as goal

pub push_reserved-requires : goal.push_reserved-requires
push_reserved-requires c =
    let s = c.args.self.now in
    omega (arith, push_few s.actions (vec_items s.templates) c.args.t (sym c.may_add.ensures ∙ c.if-not-may_add.false), s.room, s.templates.ok.0)

pub invariant_of-self : goal.invariant_of-self
invariant_of-self c =
    let s = c.args.self.now in
    let ts = vec_items s.templates in
    let long : length c.lower.new.first ≡ 256 = ap length c.lower.ensures ∙ (length-set _ _ _ ∙ s.hints) in
    let room : 40 ≤ vec_capacity c.push_reserved.new.self = omega (arith, s.room, c.push_reserved.ensures.capacity) in
    record {
      lawful = ap (λ l. lawful s.actions l) c.push_reserved.ensures.items ∙ (sym c.may_add.ensures ∙ c.if-not-may_add.false);
      near = near_push ts _ c.args.t s.first _ _ _ s.hints (omega arith) s.near c.from.ensures (c.len-n.ensures ∙ s.templates.ok.0) c.lower.ensures c.push_reserved.ensures.items;
      hints = long;
      room = room;
    }
