-- The level of a shade: the worse the book, the higher.
use Rattle.std.specs.Prelude.{ℕ}
use Rattle.coverage.specs.declared.shade.Shade.{Shade}
use Rattle.coverage.specs.declared.shade.Shade.TheVariants.{Blank, Current, Recovering, Stale}

abbrev pub level_of : Shade → ℕ
level_of Blank = 0
level_of Current = 1
level_of Recovering = 2
level_of Stale = 3
