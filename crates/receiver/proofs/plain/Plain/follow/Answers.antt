use Rattle.std.proofs.Common.{◌≡◌, ◌+◌, ◌∷◌, length, sym, refl, ap, ◌∙◌, subst, ap₂, arith}
use Rattle.packet.specs.Rules.{messages_from}
use Rattle.message.specs.Views.{view}
use Rattle.recovery.specs.Reading.{told}
use Rattle.recovery.specs.Groups.{event_steps, message_steps}
use Rattle.recovery.specs.Log.{event_logs, message_logs}
use Rattle.receiver.specs.Standings.{opening_of, state_in, bit}
use Rattle.receiver.proofs.Telling.{few-messages, ahead-start, ahead_next, ahead-end}
use Rattle.receiver.proofs.plain.Plain.follow.Goals as goal

pub loop-m-init : goal.loop-m-init
loop-m-init g c =
    let w = c.walk-walk.result in
    (ahead-start _ _ _ _ (omega (arith, few-messages w.sheet.now 0 w.rest.now, w.near)), c.requires, refl)

pub loop-m-preserved-then-tell : goal.loop-m-preserved-then-tell
loop-m-preserved-then-tell g c =
    let m = g.S.Store in let u = c.args.sub.now in let K = m.kind (m.setup c.args.store.now) in let o = opening_of u in let b = c.args.shelf.bytes.now in
    let same = ap m.kind c.loop-m.invariant.2 in let e = c.in-Some.ensures in let last = c.next.new.self in let v = view c.in-Some.m in
    let p = c.loop-m.self in let s = m.model c.loop-m.store in let p' = c.tell.new.self in let s' = m.model c.tell.new.store in
    let step = subst (λ z. state_in z u p' s' b ≡ event_steps z o (told v) (state_in z u p s b)) same c.tell.ensures.state in
    let log = subst (λ z. length (event_logs z o (told v) (state_in z u p s b)) ≡ bit c.tell.result) same c.tell.ensures.log in (
      ahead_next K o c.loop-m.adoptions c.tell.result _ _ _ v _ (state_in K u p s b) (state_in K u p' s' b) c.loop-m.invariant.0
          (e.step ∙ ap (λ z. v ∷ messages_from z 0 last.rest.now) (sym e.sheet)) step log (c.loop-m.adoptions + 1) (ap (λ z. c.loop-m.adoptions + bit z) (sym c.if-tell.true)),
      c.tell.ensures.attends,
      c.tell.ensures.stays ∙ c.loop-m.invariant.2,
    )

pub loop-m-preserved : goal.loop-m-preserved
loop-m-preserved g c =
    let m = g.S.Store in let u = c.args.sub.now in let K = m.kind (m.setup c.args.store.now) in let o = opening_of u in let b = c.args.shelf.bytes.now in
    let same = ap m.kind c.loop-m.invariant.2 in let e = c.in-Some.ensures in let last = c.next.new.self in let v = view c.in-Some.m in
    let p = c.loop-m.self in let s = m.model c.loop-m.store in let p' = c.tell.new.self in let s' = m.model c.tell.new.store in
    let step = subst (λ z. state_in z u p' s' b ≡ event_steps z o (told v) (state_in z u p s b)) same c.tell.ensures.state in
    let log = subst (λ z. length (event_logs z o (told v) (state_in z u p s b)) ≡ bit c.tell.result) same c.tell.ensures.log in (
      ahead_next K o c.loop-m.adoptions c.tell.result _ _ _ v _ (state_in K u p s b) (state_in K u p' s' b) c.loop-m.invariant.0
          (e.step ∙ ap (λ z. v ∷ messages_from z 0 last.rest.now) (sym e.sheet)) step log c.loop-m.adoptions (omega (arith, ap bit c.if-tell.false)),
      c.tell.ensures.attends,
      c.tell.ensures.stays ∙ c.loop-m.invariant.2,
    )

pub returns : goal.returns
returns g c =
    let m = g.S.Store in let u = c.args.sub.now in let K = m.kind (m.setup c.args.store.now) in let o = opening_of u in let b = c.args.shelf.bytes.now in
    let q = ahead-end K o _ _ _ _ _ c.loop-m.invariant.0 c.in_default.ensures.step in
    let s₀ = state_in K u c.args.self.now (m.model c.args.store.now) b in
    let all = ap₂ (λ y z. messages_from y 0 z) c.walk-walk.ensures.0 c.walk-walk.ensures.1 in
    record {
      state = q.0 ∙ ap (λ z. message_steps K o z s₀) all;
      log = ap (λ z. length (message_logs K o z s₀)) (sym all) ∙ q.1;
      attends = c.loop-m.invariant.1;
      stays = c.loop-m.invariant.2;
    }
