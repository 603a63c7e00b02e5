use Rattle.std.proofs.Common.{vec_items, sym, ◌∙◌}
use Rattle.layout.proofs.Adds.{push_lawful}
use Rattle.layout.proofs.sheet.Sheet.may_add.Goals as goal

pub returns : goal.returns
returns c = let s = c.args.self.now in let p = push_lawful s.actions (vec_items s.templates) c.args.t s.lawful in sym (p ∙ rw (← c.has_room.ensures, ← c.is_lawful.ensures, ← c.is_unlisted.ensures))
