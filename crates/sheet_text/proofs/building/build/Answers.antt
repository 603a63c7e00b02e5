use Rattle.std.proofs.Common.{◌≡◌, true, cond, [], map, get_or, take, vec_items, sym, refl, ap, ◌∙◌, arith}
use Rattle.std.proofs.lemmas.List.{take_all}
use Rattle.std.proofs.lemmas.Bool.{cond-true}
use Rattle.sheet_text.specs.Follows.{listed, firsts}
use Rattle.sheet_text.specs.Meaning.{template_of, listing}
use Rattle.sheet_text.proofs.Searches.{blank}
use Rattle.sheet_text.proofs.Builds.{build_takes, build_more, build_same}
use Rattle.sheet_text.proofs.building.build.Goals as goal
use Rattle.sheet_text.proofs.building.build.Goals.{then-not-is_listed, else-not-is_listed}

pub loop-i-init : goal.loop-i-init
loop-i-init c =
    let ok : c.restart.result ≡ true = c.restart.ensures.different ∙ c.requires.different in
    (refl, ap listing (c.restart.ensures.templates ∙ ap (λ b. cond b [] (vec_items c.args.sheet.now.templates)) ok))

pub loop-i-preserved : goal.loop-i-preserved
loop-i-preserved c =
    let xs = c.args.lines.now in
    let i = c.loop-i.i in
    let inv = c.loop-i.invariant in
    let was : c.is_listed.result ≡ listed (take i xs) (get_or xs i blank).template = c.is_listed.ensures in
    elim c.if-not-is_listed.branch [
      | then-not-is_listed w ↦
          (let new = sym was ∙ w.if-not-is_listed.true in
          let ok : w.add_template.result ≡ true = w.add_template.ensures.taken ∙ build_takes xs (vec_items c.loop-i.sheet.templates) i blank c.requires.kept c.loop-i-test.true new inv.1 in (
            ap (λ s. s.actions) w.sheet-is ∙ (w.add_template.ensures.actions ∙ inv.0),
            build_more xs _ _ i blank c.loop-i-test.true new inv.1 (ap (λ s. listing (vec_items s.templates)) w.sheet-is ∙ (w.add_template.ensures.templates ∙ cond-true _ _ _ ok)),
          ))
      | else-not-is_listed w ↦ (
        ap (λ s. s.actions) w.sheet-is ∙ inv.0,
        ap (λ s. listing (vec_items s.templates)) w.sheet-is ∙ build_same xs _ i blank c.loop-i-test.true (sym was ∙ w.if-not-is_listed.false) inv.1,
      )
    ]

pub returns : goal.returns
returns c =
    let ok : c.restart.result ≡ true = c.restart.ensures.different ∙ c.requires.different in
    let xs = c.args.lines.now in
    record {
      actions = c.loop-i.invariant.0 ∙ (c.restart.ensures.actions ∙ ap (λ b. cond b c.args.actions c.args.sheet.now.actions) ok);
      templates = c.loop-i.invariant.1 ∙ ap (λ l. map (template_of xs) (firsts [] l)) (take_all c.loop-i.i xs (omega arith));
    }
