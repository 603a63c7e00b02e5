-- The slot of an instrument in a watch list, and where a search for it may start.
use Rattle.std.specs.Prelude.{ℕ, ◌%◌, ◌≤◌, cond, List, length, Some, None, Option, nat_lt, slice_index}
use Rattle.recovery.specs.State.{slot_in}

-- the first place of an instrument, if it is listed
abbrev pub slot_found : List ℕ → ℕ → Option ℕ
slot_found w i = cond (nat_lt (slot_in w i) (length w)) (Some (slot_in w i)) None

-- the slot of the instrument that a message names, if it is watched
abbrev pub slot_named : List ℕ → Option ℕ → Option ℕ
slot_named w None = None
slot_named w (Some i) = slot_found w i

-- no instrument stands before the place that is noted for its remainder by 1,024
abbrev pub Near : List ℕ → List ℕ → Type 0
Near first w = (i : ℕ) → slice_index first (i % 1024) ≤ slot_in w i
