-- The entries of a tape: which call each says, by the bytes of the tape.
use Rattle.std.specs.Prelude.{ℕ, ◌+◌, Bool, true, ◌&&◌, List, [], ◌∷◌, length, take, drop, nat_le}
use Rattle.recovery.specs.Calls.{Call, incremental, join, leave, snapshot, question}
use Rattle.replay.specs.declared.call.Call.{Call as DeskCall}
use Rattle.replay.specs.declared.call.Call.TheVariants as calls
use Rattle.replay.specs.declared.entry.Entry.{Entry}
use Rattle.replay.specs.declared.entry.Entry.TheVariants.{Incremental, Join, Leave, Snapshot, Question}

-- the call of the machine that an entry says, by a receiver's number and the length of its shelf
abbrev pub asked : ℕ → ℕ → List ℕ → Entry → Call
asked own room tape (Incremental from size) = incremental room (take size (drop from tape))
asked own room tape Join = join
asked own room tape Leave = leave own
asked own room tape (Snapshot from size) = snapshot own room (take size (drop from tape))
asked own room tape (Question i) = question i

-- the bytes that a call brings, and its entry where they lie from a place on
abbrev pub bytes_in : DeskCall → List ℕ
bytes_in (calls.Incremental bytes) = bytes.now
bytes_in calls.Join = []
bytes_in calls.Leave = []
bytes_in (calls.Snapshot bytes) = bytes.now
bytes_in (calls.Question i) = []

abbrev pub entry_at : ℕ → DeskCall → Entry
entry_at from (calls.Incremental bytes) = Incremental from (length bytes.now)
entry_at from calls.Join = Join
entry_at from calls.Leave = Leave
entry_at from (calls.Snapshot bytes) = Snapshot from (length bytes.now)
entry_at from (calls.Question i) = Question i

-- every entry's bytes lie on the tape
abbrev pub lies : List ℕ → Entry → Bool
lies tape (Incremental from size) = nat_le (from + size) (length tape)
lies tape Join = true
lies tape Leave = true
lies tape (Snapshot from size) = nat_le (from + size) (length tape)
lies tape (Question i) = true

abbrev pub within : List ℕ → List Entry → Bool
within tape [] = true
within tape (e ∷ es) = lies tape e && within tape es
