use Rattle.std.proofs.Common.{sym}
use Rattle.orders.proofs.Slots.{books-length}
use Rattle.orders.proofs.book_store.OrderStoreStore.slots.Goals as goal

pub returns : goal.returns
returns c = sym (books-length c.args.self.now.rows c.args.self.now.slots)
