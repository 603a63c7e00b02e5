use Rattle.std.proofs.Common.{◌≡◌, ℕ, cond, ltb}
use Rattle.store.specs.Calls.{value_at}
use Rattle.recovery.specs.State.{rest_of}
use Rattle.receiver.proofs.opening.freshen_all.Given as goal

abbrev pub invariant-loop-p : goal.invariant-loop-p
invariant-loop-p g l =
    let m = g.S.Store in let K = m.kind (m.setup l.initial.store) in
    ((q : ℕ) → value_at K (m.model l.store) q ≡ cond (ltb q l.p) K.fresh (value_at K (m.model l.initial.store) q))
    × (rest_of K (m.model l.initial.store) ≡ rest_of K (m.model l.store))
    × (m.setup l.store ≡ m.setup l.initial.store)
