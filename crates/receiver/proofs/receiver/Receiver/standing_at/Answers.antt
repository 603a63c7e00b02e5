use Rattle.std.proofs.Common.{sym, ap, ◌∙◌, arith}
use Rattle.std.proofs.lemmas.List.{get_or_past}
use Rattle.recovery.specs.declared.marks.Mark.TheVariants.{Stale}
use Rattle.recovery.specs.Answers.{standing}
use Rattle.receiver.proofs.receiver.Receiver.standing_at.Goals as goal

pub returns-then-slot-ge64 : goal.returns-then-slot-ge64
returns-then-slot-ge64 c =
    let s = c.args.self.now.plain in
    c.standing.ensures
    ∙ ap (standing s.places.heard) (sym (get_or_past s.marks.at c.args.slot Stale (omega (arith, s.marks.long, c.if-slot-ge64.true))))
