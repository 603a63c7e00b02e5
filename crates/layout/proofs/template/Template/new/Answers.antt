use Rattle.std.proofs.Common.{sym, ◌∙◌, arith}
use Rattle.layout.proofs.Reaches.{lawful-reach}
use Rattle.layout.proofs.template.Template.new.Goals as goal

pub overflow_cast-root : goal.overflow_cast-root
overflow_cast-root c = let p = lawful-reach c.args.layout (sym c.is_lawful.ensures ∙ c.if-not-is_lawful.false) in omega (arith, p.0, c.root_reach-root.ensures)

pub overflow_cast-entry : goal.overflow_cast-entry
overflow_cast-entry c = let p = lawful-reach c.args.layout (sym c.is_lawful.ensures ∙ c.if-not-is_lawful.false) in omega (arith, p.1, c.entry_reach-entry.ensures)
