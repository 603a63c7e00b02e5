-- each band that is there is clear
use Rattle.std.proofs.Common.{◌≡◌, ℕ, ◌<◌, get_or, vec_items, vec_len}
use Rattle.coverage.specs.declared.band.Band.{Band}
use Rattle.coverage.specs.Held.{Clear}
use Rattle.coverage.proofs.coverage.Coverage.new.Given as goal

abbrev pub invariant-loop : goal.invariant-loop
invariant-loop l =
    (vec_len l.bands ≡ l.counter) × ((q : ℕ) (d : Band) → q < vec_len l.bands → Clear (get_or (vec_items l.bands) q d) l.first)
