use Rattle.std.proofs.Common.{◌∙◌, rules}
use Rattle.message.specs.Views.{meant}
use Rattle.orders.proofs.Answering.{in_slots, fits_slot}
use Rattle.orders.proofs.book_store.OrderStoreStore.fits_at.Goals as goal

pub returns : goal.returns
returns c = c.fits_in.ensures ∙ fits_slot c.args.self.now c.args.slot (meant c.args.m.now) (in_slots c.args.self.now c.args.slot c.requires)

pub overflow_add-slot : goal.overflow_add-slot
overflow_add-slot c = let i = in_slots c.args.self.now c.args.slot c.requires in search rules

pub fits_in-requires : goal.fits_in-requires
fits_in-requires c = let i = in_slots c.args.self.now c.args.slot c.requires in search rules
