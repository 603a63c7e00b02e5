use Rattle.std.proofs.Common.{◌≡◌, rules}
use Rattle.packet.specs.Rules.{packet_check}
use Rattle.packet.proofs.Filled.{filled}
use Rattle.packet.proofs.rules.check.Goals as goal

pub returns : goal.returns
returns c =
    let said : c.walk_check.result ≡ packet_check c.args.sheet.now c.args.bytes.now = search rules in
    record { answer = said; filled = filled c.args.sheet.now c.args.bytes.now _ said }
