use Rattle.std.proofs.Common.{◌==◌, rules, refl, sym, ◌∙◌}
use Rattle.std.specs.List.{slice_split}
use Rattle.std.proofs.lemmas.Iterator.Splits.{YieldsList-from_slice_split}
use Rattle.commands.proofs.Numbers.{onto_none, left-more, left-none, left-all}
use Rattle.commands.proofs.number.numbers.Goals as goal

pub loop-word-init : goal.loop-word-init
loop-word-init c = (
  slice_split (λ b. b == c.args.separator) c.args.text.now,
  YieldsList-from_slice_split _ (λ b. b == c.args.separator) {f = c.into_iter-word-iterator.result.pred} c.args.text.now (search rules) (search rules) refl (λ x b q k. search rules),
  onto_none _ _ c.new-numbers.ensures.items,
)

pub returns-in_default : goal.returns-in_default
returns-in_default c = left-none _ _ _ _ _ _ _ _ c.in-Some.is c.next.ensures.steps (sym c.decimal.ensures ∙ c.in_default.is) c.loop-word.invariant

pub loop-word-preserved : goal.loop-word-preserved
loop-word-preserved c =
    left-more _ _ _ _ _ _ _ _ _ _ c.in-Some.is c.next.ensures.steps (sym c.decimal.ensures ∙ c.in-Some-decimal.is) c.in_ok-push.ensures.items
    c.loop-word.invariant

pub returns : goal.returns
returns c = left-all _ _ _ _ _ _ _ c.in-None.is c.next.ensures.steps c.loop-word.invariant
