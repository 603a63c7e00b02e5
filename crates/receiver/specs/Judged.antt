-- What becomes of an incremental packet, by what the receiver notes of its shelf.
use Rattle.std.specs.Prelude.{ℕ, cond, List, Ok, Result}
use Rattle.packet.specs.Rules.{and_then, packet_head}
use Rattle.recovery.specs.declared.answers.Incremental.{Incremental}
use Rattle.recovery.specs.declared.answers.Incremental.TheVariants.{Repeat, Taken}
use Rattle.recovery.specs.declared.fault.StreamFault.{StreamFault}
use Rattle.recovery.specs.Shelf.{shelved}
use Rattle.recovery.specs.State.{Opening}
use Rattle.recovery.specs.Answers.{bytes_check, incremental_rules}

-- `heard` and `numbers` are the highest packet heard and the numbers at the shelf's places
abbrev pub judged : Opening → ℕ → List ℕ → ℕ → List ℕ → Result Incremental StreamFault
judged o heard numbers room bytes =
    and_then (and_then (bytes_check o room bytes) (λ _. incremental_rules o heard (packet_head bytes))) (λ _.
    Ok (cond (shelved heard numbers (packet_head bytes).number) Repeat Taken))
