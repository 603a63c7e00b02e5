use Rattle.std.proofs.Common.{ap, ◌∙◌}
use Rattle.capture.specs.Network.{link_held}
use Rattle.capture.proofs.Sendings.{sent-over}
use Rattle.capture.proofs.network.datagram.Goals as goal

pub returns : goal.returns
returns c =
    record {
      value = c.linked.ensures;
      sent = λ s k is. c.linked.ensures ∙ (ap (link_held c.args.link c.args.time) is ∙ sent-over c.args.link c.args.time s k);
    }
