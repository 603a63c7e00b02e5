use Rattle.std.proofs.Common.{length, ap, ◌∙◌, arith}
use Rattle.std.proofs.lemmas.List.{take_at, length-append, length-drop}
use Rattle.settling.proofs.slots.copied.Goals as goal

pub returns : goal.returns
returns c = (take_at c.copy_from_slice.new.self _ (length c.args.list.now) (ap length c.copy_from_slice.ensures.after) ∙ c.copy_from_slice.ensures.after, simp (length-append, length-drop) (omega (arith, ap length c.copy_from_slice.ensures.after, c.requires)))
