use Rattle.std.proofs.Common.{ap, ◌∙◌, arith}
use Rattle.std.proofs.lemmas.List.{take_rest}
use Rattle.layout.specs.Wire.{number_at, bytes_of}
use Rattle.layout.proofs.Numbers.{number_at_drop}
use Rattle.layout.proofs.wire.number.Goals as goal

pub returns : goal.returns
returns c =
    let bs = c.args.bytes.now in
    let w = bytes_of c.args.width in
    c.front.ensures ∙ (ap (λ l. number_at l 0 w) (take_rest bs c.args.offset) ∙ number_at_drop c.args.offset bs w (omega arith))
