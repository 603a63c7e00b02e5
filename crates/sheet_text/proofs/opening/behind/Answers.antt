use Rattle.std.proofs.Common.{◌∷◌, Some, sym, ap, ◌∙◌}
use Rattle.std.proofs.lemmas.Slice.Eq.{bytes_eq-Decides}
use Rattle.sheet_text.specs.Text.{rows}
use Rattle.sheet_text.proofs.opening.behind.Goals as goal

pub returns-then-eq : goal.returns-then-eq
returns-then-eq c =
    c.in_ok-line.ensures.value ∙ ap (λ l. Some l ∷ rows c.in_ok-line.rest.now) ((bytes_eq-Decides _ _).0 (sym c.eq.ensures ∙ c.if-eq.true))
