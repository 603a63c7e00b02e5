use Rattle.std.proofs.Common.{◌≡◌, length, take}
use Rattle.panel.specs.Numbers.{noted}
use Rattle.panel.proofs.Noting.{left}
use Rattle.panel.proofs.notes.note.Given as goal

abbrev pub invariant-loop-k : goal.invariant-loop-k
invariant-loop-k l = left l.templates (take (length l.templates) l.numbers) l.f.template l.f.value l.k ≡ noted l.templates (take (length l.templates) l.initial.numbers) l.f.template l.f.value
