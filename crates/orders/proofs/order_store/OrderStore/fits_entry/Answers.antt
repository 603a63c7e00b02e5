use Rattle.std.proofs.Common.{rules}
use Rattle.orders.proofs.order_store.OrderStore.fits_entry.Goals as goal

pub overflow_add-len : goal.overflow_add-len
overflow_add-len c = let h = c.args.self.now.shallow in let r = c.len.ensures.room in search rules

pub overflow_add-len-in-Ok-Offer : goal.overflow_add-len-in-Ok-Offer
overflow_add-len-in-Ok-Offer c = let h = c.args.self.now.shallow in let r = c.len-in-Ok-Offer.ensures.room in search rules
