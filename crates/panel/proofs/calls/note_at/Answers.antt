use Rattle.panel.proofs.Slots.{noted_in}
use Rattle.panel.proofs.calls.note_at.Goals as goal

pub returns : goal.returns
returns c =
    noted_in c.args.listed.now c.args.panels.now c.args.slot c.index-panels-slot.result c.note.new.self c.args.f.now.template c.args.f.now.value c.requires c.note.ensures
