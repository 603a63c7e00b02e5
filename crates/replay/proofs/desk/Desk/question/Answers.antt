use Rattle.receiver.specs.Standings.{opening_of, state_in}
use Rattle.replay.proofs.desk.Desk.question.Goals as goal

pub returns : goal.returns
returns g c =
    let u = c.args.self.now.receiver.sub in
    let o = g.S.Store.setup c.args.store.now in
    record {
      answer = c.standing.ensures;
      guarantee = c.recovery_stands.ensures.present o (opening_of u) (state_in (g.S.Store.kind o) u c.args.self.now.receiver.plain (g.S.Store.model c.args.store.now) c.args.shelf.now) c.args.instrument;
    }
