use Rattle.std.proofs.Common.{length, sym, ap, ◌∙◌}
use Rattle.std.proofs.lemmas.List.{length-map}
use Rattle.replay.proofs.tape.Tape.len.Goals as goal

pub returns : goal.returns
returns c = λ own room. length-map _ _ ∙ ap length (sym c.as_slice.ensures.value)
