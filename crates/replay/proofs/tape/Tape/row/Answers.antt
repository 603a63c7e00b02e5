use Rattle.std.proofs.Common.{ℕ, List, [], ◌∷◌, ◌++◌, map, take, vec_items, sym, ap, ◌∙◌, ap₂, arith}
use Rattle.std.proofs.lemmas.List.{map-append, take_more, take_all}
use Rattle.recovery.specs.Calls.{Call}
use Rattle.replay.specs.declared.entry.Entry.{Entry}
use Rattle.replay.specs.Requests.{request}
use Rattle.replay.specs.Entries.{asked}
use Rattle.replay.proofs.tape.Tape.row.Goals as goal

pub loop-entry-preserved : goal.loop-entry-preserved
loop-entry-preserved c =
    let entries : List Entry = c.as_slice-entries.result.now in let i : ℕ = c.loop-entry.entry-index in (
      (λ own room.
          ap (map (request own room)) c.push_reserved.ensures.items
          ∙ map-append (request own room) (vec_items c.loop-entry.row) (c.call_at.result ∷ [])
          ∙ ap₂ ◌++◌ (c.loop-entry.invariant.0 own room) (ap (λ (y : Call). y ∷ []) (c.call_at.ensures own room))
          ∙ sym (ap (map (asked own room c.as_slice-tape.result.now)) (take_more entries i _ c.loop-entry-test.true) ∙ map-append (asked own room c.as_slice-tape.result.now) (take i entries) _)),
      omega (arith, c.push_reserved.ensures.len, c.loop-entry.invariant.1),
      omega (arith, c.push_reserved.ensures.capacity, c.loop-entry.invariant.2),
    )

pub returns : goal.returns
returns c = λ own room.
    c.loop-entry.invariant.0 own room
    ∙ ap₂ (λ (b : List ℕ) (es : List Entry). map (asked own room b) es) c.as_slice-tape.ensures.value (take_all c.loop-entry.entry-index c.as_slice-entries.result.now c.loop-entry-test.false ∙ c.as_slice-entries.ensures.value)
