-- What a store of books holds.
use Rattle.std.specs.Prelude.{map}
use Rattle.std.specs.List.{range_with_len}
use Rattle.store.specs.Kind.{Model}
use Rattle.orders.specs.declared.due.Due.{Due}
use Rattle.orders.specs.declared.order_store.OrderStore.{OrderStore}
use Rattle.orders.specs.Book.{Book}
use Rattle.orders.specs.Kind.{Setup}
use Rattle.orders.specs.Rows.{book_at}

abbrev pub setup_of : OrderStore → Setup
setup_of s = record { actions = s.actions; depth = s.rows.depth }

-- the staged book lies first, and that of slot i at i + 1
abbrev pub model_of : OrderStore → Model Book Due
model_of s = record { slots = map (book_at s.rows) (range_with_len 1 s.slots); staged = book_at s.rows 0; owed = s.owed }
