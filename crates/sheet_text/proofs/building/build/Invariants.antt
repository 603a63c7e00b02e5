use Rattle.std.proofs.Common.{◌≡◌, [], map, take, vec_items}
use Rattle.sheet_text.specs.Follows.{firsts}
use Rattle.sheet_text.specs.Meaning.{template_of, listing}
use Rattle.sheet_text.proofs.building.build.Given as goal

abbrev pub invariant-loop-i : goal.invariant-loop-i
invariant-loop-i l = (l.sheet.actions ≡ l.initial.sheet.actions) × (listing (vec_items l.sheet.templates) ≡ map (template_of l.lines) (firsts [] (take l.i l.lines)))
