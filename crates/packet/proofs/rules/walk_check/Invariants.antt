use Rattle.std.proofs.Common.{◌≡◌, ◌-◌, ◌≤◌, length, drop}
use Rattle.packet.specs.Rules.{walk_check}
use Rattle.packet.proofs.rules.walk_check.Given as goal

abbrev pub invariant-loop-at : goal.invariant-loop-at
invariant-loop-at l =
    (l.at ≤ length l.bytes) × (16 ≤ l.at) × (walk_check l.sheet 0 (drop l.at l.bytes) l.at ≡ walk_check l.sheet 0 (drop 16 l.bytes) 16)

abbrev pub decreases-loop-at : goal.decreases-loop-at
decreases-loop-at l = length l.bytes - l.at
