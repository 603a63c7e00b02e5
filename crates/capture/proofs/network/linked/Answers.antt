use Rattle.std.proofs.Common.{sym, ap, ◌∙◌}
use Rattle.capture.specs.Network.{untagged, typed_held, link_held}
use Rattle.capture.proofs.Parts.{rest-least}
use Rattle.capture.proofs.network.linked.Goals as goal

pub returns-in-Ethernet : goal.returns-in-Ethernet
returns-in-Ethernet c =
    let behind = c.behind_tags.ensures ∙ ap (untagged 0) (rest-least c.args.frame.now c.min.result 12 c.min.ensures) in
    c.typed.ensures ∙ (ap (typed_held c.args.time) behind ∙ ap (λ l. link_held l c.args.time c.args.frame.now) (sym c.in-Ethernet.is))
