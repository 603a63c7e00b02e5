use Rattle.std.proofs.Common.{◌≡◌, ◌≤◌, drop}
use Rattle.sheet_text.proofs.Figures.{valued}
use Rattle.sheet_text.proofs.text.figures.Given as goal

abbrev pub invariant-loop-d : goal.invariant-loop-d
invariant-loop-d l = record { same : valued l.most l.n (drop l.d-index l.word) ≡ valued l.most 0 l.word; within : l.n ≤ l.most }
