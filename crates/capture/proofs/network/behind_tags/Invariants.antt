use Rattle.std.proofs.Common.{◌≡◌, length}
use Rattle.capture.specs.Network.{untagged}
use Rattle.capture.proofs.network.behind_tags.Given as goal

abbrev pub invariant-loop-rest : goal.invariant-loop-rest
invariant-loop-rest l = untagged 0 l.rest ≡ untagged 0 l.bytes

abbrev pub decreases-loop-rest : goal.decreases-loop-rest
decreases-loop-rest l = length l.rest
