use Rattle.std.proofs.Common.{arith}
use Rattle.capture.specs.Held.{view}
use Rattle.capture.proofs.Fronts.{held_whole}
use Rattle.capture.proofs.part.Part.held.Goals as goal

pub returns : goal.returns
returns c =
    held_whole c.args.self.now.format c.args.self.now.bytes.now c.args.size c.time.result (view c.datagram.result) c.requires.0 (omega (arith, c.four.ensures, c.four-2.ensures)) c.time.ensures c.datagram.ensures.value
