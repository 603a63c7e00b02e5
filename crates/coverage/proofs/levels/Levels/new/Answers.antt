use Rattle.std.proofs.Common.{get_or, refl, ap, ◌∙◌}
use Rattle.std.proofs.lemmas.List.{get_or-replicate}
use Rattle.coverage.proofs.Columns.{tells_none}
use Rattle.coverage.proofs.levels.Levels.new.Goals as goal

pub returns : goal.returns
returns c =
    (refl, tells_none _ (λ k lt. ap (λ l. get_or l k 0) (c.in_ok-cells.ensures.items_if_clones_equal (λ y e. e)) ∙ get_or-replicate 1024 k 0 0 lt))
