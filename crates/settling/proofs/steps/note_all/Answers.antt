use Rattle.std.proofs.Common.{refl, ap, ◌∙◌, arith}
use Rattle.std.proofs.lemmas.List.{length-take-le}
use Rattle.settling.specs.Watched.{watch_of}
use Rattle.settling.proofs.Upto.{upto-none, upto-more, upto_all}
use Rattle.settling.proofs.steps.note_all.Goals as goal

pub loop-slot-init : goal.loop-slot-init
loop-slot-init g c = (upto-none _ _ _ _, refl)

pub note-requires : goal.note-requires
note-requires g c = (omega (arith, c.args.w.now.few), c.requires)

pub loop-slot-preserved : goal.loop-slot-preserved
loop-slot-preserved g c =
    let m = g.S.Store in
    (upto-more _ _ _ _ _ _ _ _ _ _ (ap m.kind c.loop-slot.invariant.1) c.loop-slot.invariant.0 c.note.ensures.book, c.note.ensures.stays ∙ c.loop-slot.invariant.1)

pub returns : goal.returns
returns g c =
    let w = c.args.w.now in
    record {
      books = upto_all _ (watch_of w) c.loop-slot.slot _ _ _ _ _ (omega (arith, length-take-le w.count w.ids (omega (arith, w.few, w.long)))) c.loop-slot.invariant.0;
      stays = c.loop-slot.invariant.1;
    }
