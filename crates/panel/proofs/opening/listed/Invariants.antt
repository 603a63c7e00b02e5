use Rattle.std.proofs.Common.{◌≡◌, ◌≤◌, ◌++◌, length, take, drop}
use Rattle.panel.specs.Opening.{stat_templates}
use Rattle.panel.proofs.opening.listed.Given as goal

abbrev pub invariant-loop-t : goal.invariant-loop-t
invariant-loop-t l = (length l.places ≡ 16) × (l.count ≤ 16) × (take l.count l.places ++ stat_templates (drop l.t-index l.templates) ≡ stat_templates l.templates)
