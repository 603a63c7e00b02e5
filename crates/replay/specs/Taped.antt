-- The calls on a tape.
use Rattle.std.specs.Prelude.{ℕ, List, map, vec_items}
use Rattle.recovery.specs.Calls.{Call}
use Rattle.replay.specs.declared.tape.Tape.{Tape}
use Rattle.replay.specs.Entries.{asked}

-- as calls of the machine, by a receiver's number and the length of its shelf
abbrev pub taped : ℕ → ℕ → Tape → List Call
taped own room t = map (asked own room (vec_items t.bytes)) (vec_items t.entries)
