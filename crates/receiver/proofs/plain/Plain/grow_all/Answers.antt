use Rattle.std.proofs.Common.{◌≡◌, length, sym, ap, ◌∙◌, subst}
use Rattle.message.specs.Meaning.{entry, or_torn, entry_fields}
use Rattle.recovery.specs.Reading.{adds, entries_for}
use Rattle.recovery.specs.Groups.{event_step, event_steps}
use Rattle.recovery.specs.Log.{event_log, event_logs}
use Rattle.receiver.specs.Standings.{opening_of, state_in, bit}
use Rattle.receiver.proofs.Telling.{come_next, come_adopted, come_end}
use Rattle.receiver.proofs.plain.Plain.grow_all.Goals as goal

pub returns-then-grow : goal.returns-then-grow
returns-then-grow g c =
    let m = g.S.Store in let u = c.args.sub.now in let K = m.kind (m.setup c.args.store.now) in let o = opening_of u in let b = c.args.shelf.bytes.now in
    let same = ap m.kind c.loop-e.invariant.2 in let e = adds c.args.i (or_torn entry (entry_fields c.args.l.now c.in-Some.e.now)) in
    let p = c.loop-e.self in let s = m.model c.loop-e.store in let p' = c.grow.new.self in let s' = m.model c.grow.new.store in
    let step = subst (λ z. state_in z u p' s' b ≡ event_step z o e (state_in z u p s b)) same c.grow.ensures.state in
    let log = subst (λ z. length (event_log z o e (state_in z u p s b)) ≡ bit c.grow.result) same c.grow.ensures.log in
    let q = come_adopted K o c.args.i c.args.l.now _ _ _ c.in-Some.e.now _ (state_in K u p s b) (state_in K u p' s' b) c.loop-e.invariant.0 c.in-Some.ensures step c.grow.result log c.if-grow.true (c.grow.ensures.closed c.if-grow.true) in
    let s₀ = state_in K u c.args.self.now (m.model c.args.store.now) b in
    record {
      state = q.0 ∙ ap (λ z. event_steps K o (entries_for c.args.i c.args.l.now z) s₀) c.entries_of-entries.ensures;
      log = ap (λ z. length (event_logs K o (entries_for c.args.i c.args.l.now z) s₀)) (sym c.entries_of-entries.ensures) ∙ q.1;
      attends = c.grow.ensures.attends;
      stays = c.grow.ensures.stays ∙ c.loop-e.invariant.2;
    }

pub loop-e-preserved : goal.loop-e-preserved
loop-e-preserved g c =
    let m = g.S.Store in let u = c.args.sub.now in let K = m.kind (m.setup c.args.store.now) in let o = opening_of u in let b = c.args.shelf.bytes.now in
    let same = ap m.kind c.loop-e.invariant.2 in let e = adds c.args.i (or_torn entry (entry_fields c.args.l.now c.in-Some.e.now)) in
    let p = c.loop-e.self in let s = m.model c.loop-e.store in let p' = c.grow.new.self in let s' = m.model c.grow.new.store in
    let step = subst (λ z. state_in z u p' s' b ≡ event_step z o e (state_in z u p s b)) same c.grow.ensures.state in
    let log = subst (λ z. length (event_log z o e (state_in z u p s b)) ≡ bit c.grow.result) same c.grow.ensures.log in (
      come_next K o c.args.i c.args.l.now _ _ _ c.in-Some.e.now _ (state_in K u p s b) (state_in K u p' s' b) c.loop-e.invariant.0 c.in-Some.ensures step c.grow.result log c.if-grow.false,
      c.grow.ensures.attends,
      c.grow.ensures.stays ∙ c.loop-e.invariant.2,
    )

pub returns : goal.returns
returns g c =
    let m = g.S.Store in let u = c.args.sub.now in let K = m.kind (m.setup c.args.store.now) in let o = opening_of u in let b = c.args.shelf.bytes.now in
    let q = come_end K o c.args.i c.args.l.now _ _ _ _ c.loop-e.invariant.0 c.in_default.ensures in
    let s₀ = state_in K u c.args.self.now (m.model c.args.store.now) b in
    record {
      state = q.0 ∙ ap (λ z. event_steps K o (entries_for c.args.i c.args.l.now z) s₀) c.entries_of-entries.ensures;
      log = ap (λ z. length (event_logs K o (entries_for c.args.i c.args.l.now z) s₀)) (sym c.entries_of-entries.ensures) ∙ q.1;
      attends = c.loop-e.invariant.1;
      stays = c.loop-e.invariant.2;
    }
