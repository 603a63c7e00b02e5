use Rattle.std.proofs.Common.{◌<◌, length, sym, ap, ◌∙◌, arith}
use Rattle.std.proofs.lemmas.List.{length-take-le}
use Rattle.receiver.proofs.Adopting.{fine, adopts}
use Rattle.receiver.proofs.plain.Plain.adopt.Goals as goal

pub returns-clause-state : goal.returns-clause-state
returns-clause-state g c =
    let m = g.S.Store in let u = c.args.sub.now in let p = c.args.self.now in let K = m.kind (m.setup c.args.store.now) in
    let w = u.watch in let few = length-take-le w.count w.ids (omega (arith, w.few, w.long)) in
    let lt : c.args.slot < length p.marks.at = omega (arith, p.marks.long, w.few, few, c.requires.1) in
    let busy = sym c.if-idle.ensures in let ok = fine c.adopt.result c.if-is_err.ensures.value ∙ c.adopt.ensures.answer in let e = c.note_adoption.ensures in
    adopts K u p c.note_adoption.new.self (m.model c.args.store.now) (m.model c.adopt.new.self) c.args.shelf.bytes.now c.args.slot c.args.g c.requires.0 lt busy ok c.adopt.ensures.after
    e.marks e.heard e.places e.others.0 e.others.1 e.others.2 _ c.renew.new.self (m.model c.renew.new.store) (ap m.kind c.adopt.ensures.stays) c.renew.ensures.state
