use Rattle.std.proofs.Common.{◌≡◌, ℕ, Bool, length, ap, ◌∙◌, ap₂}
use Rattle.recovery.specs.State.{State}
use Rattle.recovery.specs.Steps.{snapshot_step, snapshot_answer}
use Rattle.receiver.specs.declared.join.Join.{Join}
use Rattle.receiver.specs.declared.subscription.Subscription.{Subscription}
use Rattle.receiver.specs.Standings.{opening_of, state_in}
use Rattle.replay.specs.Replies.{of_snapshot}
use Rattle.replay.specs.Tied.{tied}
use Rattle.replay.proofs.Staying.{snapshot_stays}
use Rattle.replay.proofs.Performed.{tied-own}
use Rattle.replay.proofs.desk.Desk.follow.Goals as goal

pub returns-in-Some : goal.returns-in-Some
returns-in-Some g c =
    let K = g.S.Store.kind (g.S.Store.setup c.args.store.now) in
    let u = c.args.self.now.receiver.sub in
    let p = c.args.self.now.receiver.plain in
    let room = length c.args.shelf.now in
    let bytes = c.args.bytes.now in
    let s : State g.S.Store.Value g.S.Store.Owed = state_in K u p (g.S.Store.model c.args.store.now) c.args.shelf.now in
    let j : Join = c.in-Some.join in
    let e : j.own ≡ u.own = tied-own p.joined u.own c.args.self.now.held j c.in-Some.is c.args.self.now.keeps in
    record {
      answer = c.from.ensures ∙ ap of_snapshot (c.snapshot.ensures.answer ∙ ap (λ (x : ℕ). snapshot_answer K (opening_of u) x room bytes s) e);
      state = c.snapshot.ensures.state ∙ ap (λ (x : ℕ). snapshot_step K (opening_of u) x room bytes s) e;
      opening = c.snapshot.ensures.opening;
      stays = c.snapshot.ensures.stays;
    }

pub invariant_of-self : goal.invariant_of-self
invariant_of-self g c =
    let K = g.S.Store.kind (g.S.Store.setup c.args.store.now) in
    let u = c.args.self.now.receiver.sub in
    let s : State g.S.Store.Value g.S.Store.Owed = state_in K u c.args.self.now.receiver.plain (g.S.Store.model c.args.store.now) c.args.shelf.now in
    let joined = ap (λ (x : State g.S.Store.Value g.S.Store.Owed). x.plain.joined) c.snapshot.ensures.state ∙ snapshot_stays K (opening_of u) c.in-Some.join.own (length c.args.shelf.now) c.args.bytes.now s in
    record { keeps = ap₂ (λ (b : Bool) (n : ℕ). tied b n c.args.self.now.held) joined (ap (λ (v : Subscription). v.own) c.snapshot.ensures.opening) ∙ c.args.self.now.keeps }
