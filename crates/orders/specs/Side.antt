-- The side that a number is written for.
use Rattle.std.specs.Prelude.{ℕ, cond, Ok, Err, Result, ◌==◌}
use Rattle.store.specs.declared.fault.StoreFault.{StoreFault}
use Rattle.store.specs.declared.fault.StoreFault.TheVariants.{Unfit}
use Rattle.orders.specs.declared.side.Side.{Side}
use Rattle.orders.specs.declared.side.Side.TheVariants.{Bid, Offer}

abbrev pub side_numbered : ℕ → Result Side StoreFault
side_numbered n = cond (n == 48) (Ok Bid) (cond (n == 49) (Ok Offer) (Err Unfit))
