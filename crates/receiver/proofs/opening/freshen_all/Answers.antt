use Rattle.std.proofs.Common.{◌≡◌, [], refl, ap, ◌∙◌, subst}
use Rattle.store.specs.Calls.{value_at, freshened}
use Rattle.settling.proofs.Writes.{fresh_at}
use Rattle.receiver.proofs.Fresh.{fresh-none, fresh-more}
use Rattle.receiver.proofs.opening.freshen_all.Goals as goal

pub loop-p-init : goal.loop-p-init
loop-p-init g c =
    let m = g.S.Store in let K = m.kind (m.setup c.args.store.now) in
    (fresh-none (value_at K (m.model c.args.store.now)) K.fresh, refl, refl)

pub loop-p-preserved : goal.loop-p-preserved
loop-p-preserved g c =
    let m = g.S.Store in let K = m.kind (m.setup c.args.store.now) in
    let s = m.model c.loop-p.store in let s' = m.model c.freshen.new.self in
    let step = fresh_at K [] s c.loop-p.p s' (subst (λ z. s' ≡ freshened z s c.loop-p.p) (ap m.kind c.loop-p.invariant.2) c.freshen.ensures.after) in (
      fresh-more c.loop-p.p (value_at K (m.model c.args.store.now)) (value_at K s) (value_at K s') K.fresh c.loop-p.invariant.0 step.0,
      c.loop-p.invariant.1 ∙ step.1,
      c.freshen.ensures.stays ∙ c.loop-p.invariant.2,
    )
