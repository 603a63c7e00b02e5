use Rattle.std.proofs.Common.{length, sym, refl, ap, ◌∙◌}
use Rattle.recovery.specs.Reading.{opens, closes}
use Rattle.recovery.specs.Groups.{event_steps}
use Rattle.recovery.specs.Log.{event_logs}
use Rattle.receiver.specs.Standings.{opening_of, state_in}
use Rattle.receiver.proofs.Telling.{steps_one, logs_one, both_there, one_missing}
use Rattle.receiver.proofs.plain.Plain.open_group.Goals as goal

pub returns-in-Some : goal.returns-in-Some
returns-in-Some g c =
    let m = g.S.Store in let u = c.args.sub.now in let K = m.kind (m.setup c.args.store.now) in
    let s = state_in K u c.args.self.now (m.model c.args.store.now) c.args.shelf.bytes.now in let e = opens c.in-Some.id c.in-Some.fields in
    let is = both_there c.args.i c.args.h c.in-Some.id c.in-Some.fields c.in-Some.ensures in
    record {
      state = steps_one K (opening_of u) e s _ c.begin.ensures.state ∙ sym (ap (λ z. event_steps K (opening_of u) z s) is);
      log = ap (λ z. length (event_logs K (opening_of u) z s)) is ∙ logs_one K (opening_of u) e s _ c.begin.ensures.log;
      attends = c.begin.ensures.attends;
      stays = c.begin.ensures.stays;
    }

pub returns-in-None : goal.returns-in-None
returns-in-None g c =
    let m = g.S.Store in let u = c.args.sub.now in let K = m.kind (m.setup c.args.store.now) in
    let s = state_in K u c.args.self.now (m.model c.args.store.now) c.args.shelf.bytes.now in
    let is = one_missing c.args.i c.args.h c.in-None.ensures in
    record {
      state = steps_one K (opening_of u) closes s _ refl ∙ sym (ap (λ z. event_steps K (opening_of u) z s) is);
      log = ap (λ z. length (event_logs K (opening_of u) z s)) is ∙ logs_one K (opening_of u) closes s 0 refl;
      attends = refl;
      stays = refl;
    }
