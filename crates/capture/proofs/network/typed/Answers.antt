use Rattle.std.proofs.Common.{sym, refl, ◌∙◌, arith}
use Rattle.capture.specs.Held.{view}
use Rattle.capture.proofs.Tags.{typed_ip}
use Rattle.capture.proofs.network.typed.Goals as goal

pub returns : goal.returns
returns c =
    typed_ip c.args.time c.args.bytes.now _ (view c.ipv4.result) (omega arith) (sym c.two.ensures ∙ c.if-two-ne2048.false) refl c.ipv4.ensures
