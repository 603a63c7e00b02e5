use Rattle.std.proofs.Common.{◌≡◌, ℕ, ◌≤◌, map, length, take, vec_items, vec_len, vec_capacity}
use Rattle.replay.specs.Rows.{requests}
use Rattle.replay.specs.Entries.{asked}
use Rattle.replay.proofs.tape.Tape.row.Given as goal

abbrev pub invariant-loop-entry : goal.invariant-loop-entry
invariant-loop-entry l =
    ((own room : ℕ) → requests own room (vec_items l.row) ≡ map (asked own room l.tape) (take l.entry-index l.entries))
    × (vec_len l.row ≡ l.entry-index)
    × (length l.entries ≤ vec_capacity l.row)
