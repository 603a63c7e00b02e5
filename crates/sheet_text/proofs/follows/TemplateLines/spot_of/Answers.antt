use Rattle.std.proofs.Common.{◌∙◌, ◌&&◌, eqb, rules, tests}
use Rattle.std.proofs.lemmas.Iterator.{YieldsList-from_slice}
use Rattle.std.proofs.lemmas.Iterator.Search.{find_from_yields_List}
use Rattle.sheet_text.specs.declared.types.FieldLine.{FieldLine}
use Rattle.sheet_text.specs.Names.{same_field}
use Rattle.sheet_text.proofs.Listed.{spot-by}
use Rattle.sheet_text.proofs.follows.TemplateLines.spot_of.Goals as goal

pub returns-in-Some : goal.returns-in-Some
returns-in-Some c =
    let found = find_from_yields_List (λ (x : FieldLine). eqb x.template c.args.self.now.template && same_field x.field c.args.field) _ _ c.find.result c.find.ensures.ran (YieldsList-from_slice c.args.self.now.lines.now cc) (λ x b q k. search (rules, tests)) in
    rw c.in-Some.is at (spot-by c.args.self.now.template c.args.field c.args.self.now.lines.now c.find.result found)

pub returns-in-None : goal.returns-in-None
returns-in-None c =
    let found = find_from_yields_List (λ (x : FieldLine). eqb x.template c.args.self.now.template && same_field x.field c.args.field) _ _ c.find.result c.find.ensures.ran (YieldsList-from_slice c.args.self.now.lines.now cc) (λ x b q k. search (rules, tests)) in
    c.spare_spot.ensures ∙ rw c.in-None.is at (spot-by c.args.self.now.template c.args.field c.args.self.now.lines.now c.find.result found)
