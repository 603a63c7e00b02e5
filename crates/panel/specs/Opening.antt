-- The templates of a sheet that stand for statistics.
use Rattle.std.specs.Prelude.{ℕ, cond, List, [], ◌∷◌}
use Rattle.layout.specs.declared.template.Template.{Template}
use Rattle.layout.specs.Lawful.{is_stat}

-- their numbers, in the sheet's order
abbrev pub stat_templates : List Template → List ℕ
stat_templates [] = []
stat_templates (t ∷ ts) = cond (is_stat t.layout) (t.id ∷ stat_templates ts) (stat_templates ts)
