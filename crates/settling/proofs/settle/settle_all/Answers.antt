use Rattle.std.proofs.Common.{◌+◌, sym, refl, ap, ◌∙◌, subst, arith}
use Rattle.recovery.specs.Shelf.{reading}
use Rattle.settling.specs.Watched.{watch_of}
use Rattle.settling.specs.Passes.{pass}
use Rattle.settling.specs.Each.{Each}
use Rattle.settling.proofs.Rounds.{inv_take, inv_end, on_shelf, lows_take, lows_aged}
use Rattle.settling.proofs.settle.settle_all.Goals as goal

pub loop-n-preserved : goal.loop-n-preserved
loop-n-preserved g c =
    let m = g.S.Store in let w = watch_of c.args.w.now in (
      omega arith,
      inv_take _ w c.args.sheet.now c.args.places.now c.args.shelf.bytes.now c.loop-n.n _ _ _ _ c.loop-n.invariant.1 _ _ _ (ap m.kind c.loop-n.invariant.2)
          (subst (λ f. Each (m.kind (m.setup c.loop-n.store)) w (pass c.loop-n.n f) c.loop-n.marks.at (m.model c.loop-n.store) c.take.new.marks.at (m.model c.take.new.store))
          (ap (reading c.args.sheet.now) c.part.ensures ∙ on_shelf c.args.sheet.now c.args.places.now c.args.shelf.bytes.now (c.loop-n.n + 1) (sym c.if-not-shelved.false ∙ c.shelved.ensures)) c.take.ensures.books),
      c.take.ensures.stays ∙ c.loop-n.invariant.2,
      lows_take _ w _ _ _ _ _ _ _ c.loop-n.invariant.3 c.take.ensures.books,
    )

pub returns-then-saturating_sub-ge33 : goal.returns-then-saturating_sub-ge33
returns-then-saturating_sub-ge33 g c = let m = g.S.Store in record {
  books = inv_end _ (watch_of c.args.w.now) c.args.sheet.now c.args.places.now c.args.shelf.bytes.now c.loop-n.n _ _ _ _ c.loop-n.invariant.1 _ _ _ (ap m.kind c.loop-n.invariant.2) (omega arith) c.note_all.ensures.books;
  stays = c.note_all.ensures.stays ∙ c.loop-n.invariant.2;
}

pub returns-else-saturating_sub-ge33 : goal.returns-else-saturating_sub-ge33
returns-else-saturating_sub-ge33 g c = let w = watch_of c.args.w.now in record {
  books = inv_end _ w c.args.sheet.now c.args.places.now c.args.shelf.bytes.now c.loop-n.n _ _ _ _ c.loop-n.invariant.1 _ _ _ refl (omega arith) (lows_aged _ w _ _ _ _ c.loop-n.invariant.3 (omega arith));
  stays = c.loop-n.invariant.2;
}
