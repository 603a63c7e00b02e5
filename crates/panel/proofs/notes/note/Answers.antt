use Rattle.std.proofs.Common.{◌+◌, ◌≤◌, length, take, set, Some, w64, SFits, rules, sym, ap, ◌∙◌, arith}
use Rattle.std.proofs.lemmas.Int.{to_z-of_z}
use Rattle.panel.proofs.Noting.{left, note_here, note_other}
use Rattle.panel.proofs.notes.note.Goals as goal
use Rattle.panel.proofs.notes.note.Goals.{then-from-f, else-from-f}

pub loop-k-preserved : goal.loop-k-preserved
loop-k-preserved c =
    let ts = c.args.templates.now in
    let v = c.loop-k.numbers in
    let k = c.loop-k.k in
    let f = c.args.f.now in
    let fits : SFits w64 c.args.f.now.value = search rules in
    let e : length c.args.templates.now ≤ length c.loop-k.numbers = omega (arith, c.loop-k.auto.numbers, c.requires) in
    elim c.if-from-f.branch [
      | then-from-f w ↦
          ap (λ z. left ts (take (length ts) z) f.template f.value (k + 1)) (w.numbers-is ∙ ap (λ z. set v k (Some z)) (to_z-of_z w64 f.value fits))
          ∙ (note_here ts v f.template f.value k c.loop-k-test.true e (sym c.from.ensures ∙ w.if-from-f.true) ∙ c.loop-k.invariant)
      | else-from-f w ↦
          ap (λ z. left ts (take (length ts) z) f.template f.value (k + 1)) w.numbers-is
          ∙ (note_other ts v f.template f.value k c.loop-k-test.true e (λ q. w.if-from-f.false (c.from.ensures ∙ q)) ∙ c.loop-k.invariant)
    ]
