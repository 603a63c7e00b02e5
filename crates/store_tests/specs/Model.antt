-- What a store of counts holds.
use Rattle.std.specs.Prelude.{ℕ}
use Rattle.store.specs.Kind.{Model}
use Rattle.store_tests.specs.declared.tally.Tally.{Tally}

abbrev pub model_of : Tally → Model ℕ ℕ
model_of s = record { slots = s.slots; staged = s.staged; owed = s.owed }
