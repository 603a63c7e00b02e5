use Rattle.std.proofs.Common.{ℕ, ◌+◌, List, [], length, get_or, drop, vec_items, refl, ap, ◌∙◌, subst, arith}
use Rattle.std.proofs.lemmas.List.{drop_more, drop_all}
use Rattle.store.specs.Kind.{Kind}
use Rattle.receiver.specs.declared.subscription.Subscription.{Subscription}
use Rattle.receiver.specs.Standings.{opening_of, state_in}
use Rattle.replay.specs.declared.call.Call.{Call}
use Rattle.replay.specs.declared.call.Call.TheVariants.{Incremental}
use Rattle.replay.proofs.Leading.{Steps, leads_more, leads_all}
use Rattle.replay.proofs.desk.Desk.perform_each.Goals as goal

pub loop-call-init : goal.loop-call-init
loop-call-init g c = ((refl, refl, refl), refl, refl, omega (arith, c.requires))

pub loop-call-preserved : goal.loop-call-preserved
loop-call-preserved g c =
    let m = g.S.Store in
    let u₀ : Subscription = c.args.self.now.receiver.sub in let K₀ : Kind m.Value m.Owed = m.kind (m.setup c.args.store.now) in let n₀ : ℕ = length c.args.shelf.now in
    let u : Subscription = c.loop-call.self.receiver.sub in let K : Kind m.Value m.Owed = m.kind (m.setup c.loop-call.store) in let n : ℕ = length c.loop-call.shelf in
    let i : ℕ = c.loop-call.call-index in let row : List Call = c.args.calls.now in
    let x : Call = get_or row i (Incremental (record { ref_ptr = (0, 0); now = [] })) in
    let p = c.loop-call.self.receiver.plain in let s = m.model c.loop-call.store in let b = c.loop-call.shelf in
    let p' = c.perform_next.new.self.receiver.plain in let s' = m.model c.perform_next.new.store in let b' = c.perform_next.new.shelf in
    let told = vec_items c.loop-call.answers in let more = vec_items c.perform_next.new.answers in let e = c.perform_next.ensures in
    let h₀ = subst (λ (y : ℕ). Steps K (opening_of u) u.own y (state_in K u p s b) (state_in K u p' s' b') b b' told more x) c.loop-call.auto.shelf (e.answer, e.state, e.shelf) in
    let h₁ = subst (λ (v : Subscription). Steps K (opening_of v) v.own n₀ (state_in K v p s b) (state_in K v p' s' b') b b' told more x) c.loop-call.invariant.1 h₀ in
    let h₂ = subst (λ (z : Kind m.Value m.Owed). Steps z (opening_of u₀) u₀.own n₀ (state_in z u₀ p s b) (state_in z u₀ p' s' b') b b' told more x) (ap m.kind c.loop-call.invariant.2) h₁ in (
      leads_more K₀ (opening_of u₀) u₀.own n₀ (state_in K₀ u₀ c.args.self.now.receiver.plain (m.model c.args.store.now) c.args.shelf.now) c.args.shelf.now (vec_items c.args.answers.now) row
          (state_in K₀ u₀ p s b) (state_in K₀ u₀ p' s' b') b b' told more x (drop i row) (drop (i + 1) row)
          (drop_more row i _ c.loop-call-test.true) c.loop-call.invariant.0 h₂,
      e.opening ∙ c.loop-call.invariant.1,
      e.stays ∙ c.loop-call.invariant.2,
      omega (arith, c.loop-call.invariant.3, e.room.0, e.room.1),
    )

pub returns : goal.returns
returns g c =
    let m = g.S.Store in
    let u : Subscription = c.args.self.now.receiver.sub in let K : Kind m.Value m.Owed = m.kind (m.setup c.args.store.now) in
    let row : List Call = c.args.calls.now in
    let h = leads_all K (opening_of u) u.own (length c.args.shelf.now) (state_in K u c.args.self.now.receiver.plain (m.model c.args.store.now) c.args.shelf.now) c.args.shelf.now (vec_items c.args.answers.now) row
    (state_in K u c.loop-call.self.receiver.plain (m.model c.loop-call.store) c.loop-call.shelf) c.loop-call.shelf (vec_items c.loop-call.answers) (drop c.loop-call.call-index row)
    (drop_all c.loop-call.call-index row c.loop-call-test.false) c.loop-call.invariant.0 in
    record {
      state = h.0;
      shelf = h.1;
      answers = h.2;
      opening = c.loop-call.invariant.1;
      stays = c.loop-call.invariant.2;
    }
