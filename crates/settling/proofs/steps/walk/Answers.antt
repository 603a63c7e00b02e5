use Rattle.std.proofs.Common.{◌∷◌, sym, ap, ◌∙◌, subst, ap₂}
use Rattle.packet.specs.Rules.{messages_from}
use Rattle.message.specs.Views.{view}
use Rattle.settling.specs.Watched.{watch_of}
use Rattle.settling.specs.Passes.{feeds}
use Rattle.settling.specs.Each.{Each}
use Rattle.settling.proofs.Meeting.{turn, like}
use Rattle.settling.proofs.Feeding.{feeds_next, feeds-end}
use Rattle.settling.proofs.steps.walk.Goals as goal

pub loop-m-preserved : goal.loop-m-preserved
loop-m-preserved g c =
    let m = g.S.Store in let e = c.in-Some.ensures in let last = c.next.new.self in (
      turn _ (watch_of c.args.w.now) (ap m.kind c.loop-m.invariant.1) c.loop-m.invariant.0 c.hand.ensures.books
          (feeds_next c.args.n _ _ _ (e.step ∙ ap (λ z. view c.in-Some.m ∷ messages_from z 0 last.rest.now) (sym e.sheet))),
      c.hand.ensures.stays ∙ c.loop-m.invariant.1,
    )

pub returns : goal.returns
returns g c =
    let m = g.S.Store in let k = m.kind (m.setup c.args.store.now) in
    let done = like k (watch_of c.args.w.now) c.loop-m.invariant.0 (feeds-end c.args.n _ c.in_default.ensures.step) in
    record {
      books = subst (λ z. Each k (watch_of c.args.w.now) (feeds c.args.n z) c.args.marks.now.at (m.model c.args.store.now) c.loop-m.marks.at (m.model c.loop-m.store))
          (ap₂ (λ a b. messages_from a 0 b) c.walk-walk.ensures.0 c.walk-walk.ensures.1) done;
      stays = c.loop-m.invariant.1;
    }
