use Rattle.std.proofs.Common.{arith}
use Rattle.settling.proofs.Writes.{note_falls}
use Rattle.settling.proofs.steps.note.Goals as goal

pub returns-then-note : goal.returns-then-note
returns-then-note g c = record {
  book = note_falls _ c.args.marks.now.at _ c.args.slot c.args.e _ _ (omega (arith, c.args.marks.now.long)) c.note.ensures.after c.if-note.ensures.value c.freshen.ensures.after;
  stays = c.freshen.ensures.stays;
}
