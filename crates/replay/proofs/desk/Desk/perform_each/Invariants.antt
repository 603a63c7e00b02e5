use Rattle.std.proofs.Common.{◌≡◌, ◌+◌, ◌≤◌, length, drop, vec_items, vec_len, vec_capacity}
use Rattle.receiver.specs.Standings.{opening_of, state_in}
use Rattle.replay.proofs.Leading.{Leads}
use Rattle.replay.proofs.desk.Desk.perform_each.Given as goal

abbrev pub invariant-loop-call : goal.invariant-loop-call
invariant-loop-call g l =
    let m = g.S.Store in let K = m.kind (m.setup l.initial.store) in let u = l.initial.self.receiver.sub in
    Leads K (opening_of u) u.own (length l.initial.shelf) (state_in K u l.initial.self.receiver.plain (m.model l.initial.store) l.initial.shelf) l.initial.shelf (vec_items l.initial.answers) l.calls
    (state_in K u l.self.receiver.plain (m.model l.store) l.shelf) l.shelf (vec_items l.answers) (drop l.call-index l.calls)
    × (l.self.receiver.sub ≡ u)
    × (m.setup l.store ≡ m.setup l.initial.store)
    × (vec_len l.answers + length l.calls ≤ vec_capacity l.answers + l.call-index)
