use Rattle.std.proofs.Common.{ℕ, List, ◌++◌, length, vec_items, refl, ap, ◌∙◌}
use Rattle.std.proofs.lemmas.Result.{MatchResult-from_err}
use Rattle.store.specs.Kind.{Kind}
use Rattle.recovery.specs.State.{Opening, State}
use Rattle.recovery.specs.Calls.{Call}
use Rattle.receiver.specs.declared.subscription.Subscription.{Subscription}
use Rattle.receiver.specs.Standings.{opening_of, state_in}
use Rattle.replay.specs.declared.call.Answer.{Answer}
use Rattle.replay.specs.declared.call.Call.{Call as DeskCall}
use Rattle.replay.specs.Rows.{requests, done, replies}
use Rattle.replay.proofs.Leading.{leads_all, none_done, continues, recovers}
use Rattle.replay.proofs.desk.Desk.perform_all.Goals as goal

pub returns-in_err-reserve : goal.returns-in_err-reserve
returns-in_err-reserve g c =
    let m = g.S.Store in let setup = m.setup c.args.store.now in
    let u : Subscription = c.args.self.now.receiver.sub in let K : Kind m.Value m.Owed = m.kind setup in let o : Opening = opening_of u in
    let room : ℕ = length c.args.shelf.now in let r = c.from_residual.result in
    let row : List DeskCall = done r c.args.calls.now in
    let s : State m.Value m.Owed = state_in K u c.args.self.now.receiver.plain (m.model c.args.store.now) c.args.shelf.now in
    let h = leads_all K o u.own room s c.args.shelf.now (vec_items c.args.answers.now) row s c.args.shelf.now (vec_items c.args.answers.now) row
    (none_done r c.args.calls.now c.from_residual.ensures.0) (refl, refl, refl) in
    record {
      state = h.0;
      answers = c.reserve.ensures.items ∙ h.2;
      shelf = h.1;
      opening = refl;
      stays = refl;
      refused = MatchResult-from_err r _ _ c.from_residual.ensures.0 (λ _. (refl, refl));
      history = continues K o s s (requests u.own room row) h.0;
      guarantee = recovers K o (m.Image setup) s s (requests u.own room row) h.0 (c.recovery_stands.ensures.present setup o s);
    }

pub returns : goal.returns
returns g c =
    let m = g.S.Store in let setup = m.setup c.args.store.now in
    let u : Subscription = c.args.self.now.receiver.sub in let K : Kind m.Value m.Owed = m.kind setup in let o : Opening = opening_of u in
    let row : List Call = requests u.own (length c.args.shelf.now) c.args.calls.now in
    let s : State m.Value m.Owed = state_in K u c.args.self.now.receiver.plain (m.model c.args.store.now) c.args.shelf.now in
    let t : State m.Value m.Owed = state_in K u c.perform_each.new.self.receiver.plain (m.model c.perform_each.new.store) c.perform_each.new.shelf in
    let e = c.perform_each.ensures in
    record {
      state = e.state;
      answers = e.answers ∙ ap (λ (y : List Answer). y ++ replies K o s row) c.reserve.ensures.items;
      shelf = e.shelf;
      opening = e.opening;
      stays = e.stays;
      refused = tt;
      history = continues K o s t row e.state;
      guarantee = recovers K o (m.Image setup) s t row e.state (c.recovery_stands.ensures.present setup o t);
    }
