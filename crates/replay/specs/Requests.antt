-- The call of the receiver's machine that a call at the desk stands for.
use Rattle.std.specs.Prelude.{ℕ, List}
use Rattle.recovery.specs.State.{Opening, Plain}
use Rattle.recovery.specs.Incremental.{shelf_after}
use Rattle.recovery.specs.Calls.{Call, incremental, join, leave, snapshot, question}
use Rattle.replay.specs.declared.call.Call.{Call as DeskCall}
use Rattle.replay.specs.declared.call.Call.TheVariants.{Incremental, Join, Leave, Snapshot, Question}

-- the shelf that is lent has `room` bytes, and a join carries the receiver's number `own`
abbrev pub request : ℕ → ℕ → DeskCall → Call
request own room (Incremental bytes) = incremental room bytes.now
request own room Join = join
request own room Leave = leave own
request own room (Snapshot bytes) = snapshot own room bytes.now
request own room (Question i) = question i

-- the shelf's bytes after a call: only an incremental packet changes them
abbrev pub shelf_then : Opening → Plain → Call → List ℕ → List ℕ
shelf_then o p (incremental room bytes) shelf = shelf_after o p bytes shelf
shelf_then o p join shelf = shelf
shelf_then o p (leave j) shelf = shelf
shelf_then o p (snapshot j room bytes) shelf = shelf
shelf_then o p (question i) shelf = shelf
