use Rattle.std.proofs.Common.{[], length, refl, ap, ◌∙◌}
use Rattle.recovery.specs.State.{State}
use Rattle.recovery.specs.Answers.{join_check, present_join}
use Rattle.receiver.specs.declared.plain.Plain.{Plain}
use Rattle.receiver.specs.Standings.{opening_of, plain_of, state_in}
use Rattle.receiver.specs.Joins.{joining, leaving}
use Rattle.replay.specs.declared.call.Call.TheVariants.{Incremental, Join, Leave, Snapshot, Question}
use Rattle.replay.specs.Replies.{of_standing}
use Rattle.replay.proofs.Staying.{when_ok_lem}
use Rattle.replay.proofs.Performed.{performed}
use Rattle.replay.proofs.desk.Desk.perform.Goals as goal

pub returns-in-Incremental : goal.returns-in-Incremental
returns-in-Incremental g c =
    let o = g.S.Store.setup c.args.store.now in
    let K = g.S.Store.kind o in
    let u = c.args.self.now.receiver.sub in
    let p = c.args.self.now.receiver.plain in
    let m = g.S.Store.model c.args.store.now in
    let room = length c.args.shelf.now in
    let s : State g.S.Store.Value g.S.Store.Owed = state_in K u p m c.args.shelf.now in
    let t : State g.S.Store.Value g.S.Store.Owed = state_in K u c.take.new.self.receiver.plain (g.S.Store.model c.take.new.store) c.take.new.shelf in
    let h = performed K (opening_of u) u.own room s t c.args.shelf.now c.take.new.shelf c.take.result c.args.call (Incremental c.in-Incremental.bytes) c.in-Incremental.is
    (c.take.ensures.answer, c.take.ensures.state, c.take.ensures.shelf) in
    record {
      answer = h.0;
      state = h.1;
      shelf = h.2;
      opening = c.take.ensures.opening;
      stays = c.take.ensures.stays;
      guarantee = λ i. c.recovery_stands.ensures.present o (opening_of u) t i;
    }

pub returns-in-Join : goal.returns-in-Join
returns-in-Join g c =
    let o = g.S.Store.setup c.args.store.now in
    let K = g.S.Store.kind o in
    let u = c.args.self.now.receiver.sub in
    let p = c.args.self.now.receiver.plain in
    let m = g.S.Store.model c.args.store.now in
    let room = length c.args.shelf.now in
    let s : State g.S.Store.Value g.S.Store.Owed = state_in K u p m c.args.shelf.now in
    let t : State g.S.Store.Value g.S.Store.Owed = state_in K u c.enter.new.self.receiver.plain m c.args.shelf.now in
    let h = performed K (opening_of u) u.own room s t c.args.shelf.now c.args.shelf.now c.enter.result c.args.call Join c.in-Join.is
    (c.enter.ensures.answer, ap (λ (x : Plain). state_in K u x m c.args.shelf.now) c.enter.ensures.after ∙ when_ok_lem (λ (x : Plain). state_in K u x m c.args.shelf.now) (join_check (plain_of u.sheet p [])) (joining p) p, refl) in
    record {
      answer = h.0;
      state = h.1;
      shelf = h.2;
      opening = c.enter.ensures.opening;
      stays = refl;
      guarantee = λ i. c.recovery_stands.ensures.present o (opening_of u) t i;
    }

pub returns-in-Leave : goal.returns-in-Leave
returns-in-Leave g c =
    let o = g.S.Store.setup c.args.store.now in
    let K = g.S.Store.kind o in
    let u = c.args.self.now.receiver.sub in
    let p = c.args.self.now.receiver.plain in
    let m = g.S.Store.model c.args.store.now in
    let room = length c.args.shelf.now in
    let s : State g.S.Store.Value g.S.Store.Owed = state_in K u p m c.args.shelf.now in
    let t : State g.S.Store.Value g.S.Store.Owed = state_in K u c.part.new.self.receiver.plain m c.args.shelf.now in
    let h = performed K (opening_of u) u.own room s t c.args.shelf.now c.args.shelf.now c.part.result c.args.call Leave c.in-Leave.is
    (c.part.ensures.answer, ap (λ (x : Plain). state_in K u x m c.args.shelf.now) c.part.ensures.after ∙ when_ok_lem (λ (x : Plain). state_in K u x m c.args.shelf.now) (present_join (opening_of u) (plain_of u.sheet p []) u.own) (leaving p) p, refl) in
    record {
      answer = h.0;
      state = h.1;
      shelf = h.2;
      opening = c.part.ensures.opening;
      stays = refl;
      guarantee = λ i. c.recovery_stands.ensures.present o (opening_of u) t i;
    }

pub returns-in-Snapshot : goal.returns-in-Snapshot
returns-in-Snapshot g c =
    let o = g.S.Store.setup c.args.store.now in
    let K = g.S.Store.kind o in
    let u = c.args.self.now.receiver.sub in
    let p = c.args.self.now.receiver.plain in
    let m = g.S.Store.model c.args.store.now in
    let room = length c.args.shelf.now in
    let s : State g.S.Store.Value g.S.Store.Owed = state_in K u p m c.args.shelf.now in
    let t : State g.S.Store.Value g.S.Store.Owed = state_in K u c.follow.new.self.receiver.plain (g.S.Store.model c.follow.new.store) c.args.shelf.now in
    let h = performed K (opening_of u) u.own room s t c.args.shelf.now c.args.shelf.now c.follow.result c.args.call (Snapshot c.in-Snapshot.bytes) c.in-Snapshot.is
    (c.follow.ensures.answer, c.follow.ensures.state, refl) in
    record {
      answer = h.0;
      state = h.1;
      shelf = h.2;
      opening = c.follow.ensures.opening;
      stays = c.follow.ensures.stays;
      guarantee = λ i. c.recovery_stands.ensures.present o (opening_of u) t i;
    }

pub returns-in-Question : goal.returns-in-Question
returns-in-Question g c =
    let o = g.S.Store.setup c.args.store.now in
    let K = g.S.Store.kind o in
    let u = c.args.self.now.receiver.sub in
    let p = c.args.self.now.receiver.plain in
    let m = g.S.Store.model c.args.store.now in
    let room = length c.args.shelf.now in
    let s : State g.S.Store.Value g.S.Store.Owed = state_in K u p m c.args.shelf.now in
    let t : State g.S.Store.Value g.S.Store.Owed = s in
    let h = performed K (opening_of u) u.own room s t c.args.shelf.now c.args.shelf.now c.from.result c.args.call (Question c.in-Question.instrument) c.in-Question.is
    (c.from.ensures ∙ ap of_standing c.standing.ensures, refl, refl) in
    record {
      answer = h.0;
      state = h.1;
      shelf = h.2;
      opening = refl;
      stays = refl;
      guarantee = λ i. c.recovery_stands.ensures.present o (opening_of u) t i;
    }
