use Rattle.std.proofs.Common.{arith}
use Rattle.packet.proofs.Groups.{parts_next}
use Rattle.packet.proofs.group.Entries.next.Goals as goal

pub returns : goal.returns
returns c =
    parts_next c.args.self.now.size c.args.self.now.left _ c.args.self.now.rest.now c.split_at.result.0.now c.split_at.result.1.now (omega arith) c.min.ensures c.split_at.ensures.front c.split_at.ensures.back
