-- The state that a receiver's parts stand for, together with its store and its shelf.
use Rattle.std.specs.Prelude.{ℕ, Bool, true, cond, List, length, Some, None, Option, nat_lt}
use Rattle.layout.specs.declared.sheet.Sheet.{Sheet}
use Rattle.store.specs.Kind.{Kind, Model}
use Rattle.recovery.specs.declared.marks.Group.{Group}
use Rattle.recovery.specs.Shelf.{shelf_of}
use Rattle.recovery.specs.State.{Opening, Plain as PlainState, State, slot_in, state_of}
use Rattle.settling.specs.Watched.{watch_of}
use Rattle.receiver.specs.declared.subscription.Subscription.{Subscription}
use Rattle.settling.specs.Placed.{numbers_of, sizes_of}
use Rattle.receiver.specs.declared.plain.Plain.{Plain}

-- what the receiver was opened with
abbrev pub opening_of : Subscription → Opening
opening_of u = record { channel = u.channel; version = u.version; own = u.own; watch = watch_of u.watch; sheet = u.sheet }

-- the plain part, with these bytes on the shelf
abbrev pub plain_of : Sheet → Plain → List ℕ → PlainState
plain_of sheet p bytes = record {
  heard = p.places.heard;
  shelf = shelf_of sheet p.places.heard (numbers_of p.places.at) (sizes_of p.places.at) bytes;
  joined = p.joined;
  followed = p.followed;
  pending = p.pending;
}

-- the state of the receiver, of its store and its shelf
abbrev pub state_in : {V O : Type 0} → Kind V O → Subscription → Plain → Model V O → List ℕ → State V O
state_in K u p s bytes = state_of K (plain_of u.sheet p bytes) p.marks.at s

-- an open group is of a watched instrument
abbrev pub attended : List ℕ → Option Group → Bool
attended w None = true
attended w (Some g) = nat_lt (slot_in w g.security) (length w)

abbrev pub bit : Bool → ℕ
bit b = cond b 1 0
