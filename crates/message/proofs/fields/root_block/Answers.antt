use Rattle.std.proofs.Common.{◌≡◌, ℕ, ◌-◌, ◌≤◌, List, length, take, drop, Some, sym, ap, ◌∙◌, rules}
use Rattle.std.proofs.lemmas.List.{take_rest}
use Rattle.std.proofs.lemmas.Bool.{le-ltb, cond-false}
use Rattle.message.specs.Meaning.{root_block}
use Rattle.message.proofs.fields.root_block.Goals as goal

behind : (m : List ℕ) → 12 ≤ length m → root_block m ≡ Some (take (length m - 12) (drop 12 m))
behind m h = cond-false _ _ _ (le-ltb (length m) 12 h) ∙ ap Some (sym (take_rest m 12))

pub returns : goal.returns
returns c = behind c.args.part.now (search rules)
