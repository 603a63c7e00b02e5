use Rattle.std.proofs.Common.{ℕ, ◌*◌, List, sym, refl, subst, arith}
use Rattle.std.proofs.lemmas.List.{with_items_is}
use Rattle.coverage.specs.Cells.{Halved}
use Rattle.coverage.specs.Notes.{Tells}
use Rattle.coverage.proofs.Columns.{tells_joined}
use Rattle.coverage.proofs.levels.Levels.widen.Goals as goal

pub returns : goal.returns
returns c =
    let H : List ℕ → Type 0 = λ l. Halved l c.halve.new.cells in
    let halved = subst H c.as_mut_slice.ensures.value c.halve.ensures in
    record {
      width = refl;
      told =
          λ notes told.
          let P : List ℕ → Type 0 = λ l. Tells notes (c.args.self.now.width * 2) l in
          subst P (sym (with_items_is c.args.self.now.cells c.halve.new.cells (omega (arith, c.as_mut_slice.ensures.len, c.halve.auto.cells))))
          (tells_joined notes c.args.self.now.width _ _ halved told);
    }
