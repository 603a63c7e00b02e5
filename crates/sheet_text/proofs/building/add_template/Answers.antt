use Rattle.std.proofs.Common.{vec_items, sym, refl, ap, ◌∙◌}
use Rattle.layout.specs.Lawful.{lawful_layout}
use Rattle.sheet_text.specs.Meaning.{template_of}
use Rattle.sheet_text.proofs.Builds.{added, added-listing, refused}
use Rattle.sheet_text.proofs.building.add_template.Goals as goal

pub returns-in-Some : goal.returns-in-Some
returns-in-Some c =
    let s = c.args.sheet.now in
    let e = template_of c.args.lines.now c.args.x.now in
    let made = c.in-Some.ensures.value in
    let is = made.1 ∙ c.layout_of-layout.ensures in
    record {
      taken = added s.actions (vec_items s.templates) c.in-Some.t e c.add.result s.lawful made.0 is c.add.ensures.lawful;
      actions = c.add.ensures.actions;
      templates = added-listing (vec_items s.templates) _ c.in-Some.t e c.add.result made.0 is c.add.ensures.templates;
    }

pub returns-in-None : goal.returns-in-None
returns-in-None c =
    record {
      taken = refused (vec_items c.args.sheet.now.templates) (template_of c.args.lines.now c.args.x.now) (ap lawful_layout (sym c.layout_of-layout.ensures) ∙ sym c.in-None.ensures.lawful);
      actions = refl;
      templates = refl;
    }
