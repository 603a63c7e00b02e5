use Rattle.std.proofs.Common.{◌≡◌, ◌≤◌}
use Rattle.settling.specs.Watched.{watch_of}
use Rattle.settling.proofs.Rounds.{Inv, Lows}
use Rattle.settling.proofs.settle.settle_all.Given as goal

abbrev pub invariant-loop-n : goal.invariant-loop-n
invariant-loop-n g l =
    let m = g.S.Store in
    (l.n ≤ l.heard)
    × Inv (m.kind (m.setup l.initial.store)) (watch_of l.w) l.sheet l.places l.shelf.bytes.now l.n l.initial.marks.at (m.model l.initial.store) l.marks.at (m.model l.store)
    × (m.setup l.store ≡ m.setup l.initial.store)
    × Lows (watch_of l.w) l.low l.marks.at
