use Rattle.std.proofs.Common.{◌≡◌}
use Rattle.settling.proofs.Upto.{Upto}
use Rattle.settling.proofs.steps.note_all.Given as goal

abbrev pub invariant-loop-slot : goal.invariant-loop-slot
invariant-loop-slot g l =
    let m = g.S.Store in
    Upto (m.kind (m.setup l.initial.store)) l.slot l.e l.initial.marks.at (m.model l.initial.store) l.marks.at (m.model l.store)
    × (m.setup l.store ≡ m.setup l.initial.store)
