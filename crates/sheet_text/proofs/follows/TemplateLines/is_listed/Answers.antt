use Rattle.std.proofs.Common.{◌∙◌, eqb, rules, tests}
use Rattle.std.proofs.lemmas.Iterator.{YieldsList-from_slice}
use Rattle.std.proofs.lemmas.Iterator.Search.{any_from_yields_List}
use Rattle.sheet_text.specs.declared.types.FieldLine.{FieldLine}
use Rattle.sheet_text.proofs.Listed.{any-listed}
use Rattle.sheet_text.proofs.follows.TemplateLines.is_listed.Goals as goal

pub returns : goal.returns
returns c =
    any_from_yields_List (λ (x : FieldLine). eqb x.template c.args.self.now.template) _ _ c.any.result c.any.ensures.ran (YieldsList-from_slice c.args.self.now.lines.now cc) (λ x b q k. search (rules, tests))
    ∙ any-listed c.args.self.now.template c.args.self.now.lines.now
