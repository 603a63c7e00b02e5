-- What an incremental packet leaves: the state, and the shelf's bytes.
use Rattle.std.specs.Prelude.{ℕ, max, cond, List, length, nat_lt, slice_index}
use Rattle.packet.specs.Rules.{packet_head}
use Rattle.store.specs.Kind.{Kind}
use Rattle.recovery.specs.Shelf.{Found, reading, laid, written}
use Rattle.recovery.specs.Books.{kind_at, settle}
use Rattle.recovery.specs.State.{Opening, Plain, State}
use Rattle.recovery.specs.Answers.{incremental_answer}
use Rattle.recovery.specs.Updates.{hearing, with_plain, when_taken}

-- the instrument of a slot
abbrev pub id_at : Opening → ℕ → ℕ
id_at o q = slice_index o.watch q

-- the shelf's bytes after an incremental packet; no other call changes them
abbrev pub shelf_after : Opening → Plain → List ℕ → List ℕ → List ℕ
shelf_after o p bytes shelf = when_taken (incremental_answer o p (length shelf) bytes) (written shelf (packet_head bytes).number bytes) shelf

module _ {V O : Type 0} (K : Kind V O) (o : Opening) where
  -- every watched book settles
  abbrev pub settled : State V O → State V O
  settled s = record {
    plain = s.plain;
    books = λ q. cond (nat_lt q (length o.watch)) (settle (kind_at K s.rest.room q) s.plain.heard s.plain.shelf (id_at o q) (s.books q)) (s.books q);
    rest = s.rest;
  }

  -- the highest packet heard is h, this is on the shelf, and all settle
  abbrev pub renewed : ℕ → (ℕ → Found) → State V O → State V O
  renewed h shelf s = settled (with_plain (hearing h shelf s.plain) s)

  -- an incremental packet that is taken
  abbrev pub received : List ℕ → State V O → State V O
  received bytes s =
      let q = (packet_head bytes).number in let h = max s.plain.heard q in
      renewed h (laid h q (reading o.sheet bytes) s.plain.shelf) s

  abbrev pub incremental_step : ℕ → List ℕ → State V O → State V O
  incremental_step room bytes s = when_taken (incremental_answer o s.plain room bytes) (received bytes s) s
