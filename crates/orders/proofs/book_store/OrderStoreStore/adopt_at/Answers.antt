use Rattle.std.proofs.Common.{rules}
use Rattle.orders.specs.Model.{setup_of}
use Rattle.orders.proofs.Slots.{slot_put, sound_slot}
use Rattle.orders.proofs.Answering.{in_slots, same-setup}
use Rattle.orders.proofs.book_store.OrderStoreStore.adopt_at.Goals as goal

pub invariant_of-self : goal.invariant_of-self
invariant_of-self c =
    let s = c.args.self.now in
    let k = sound_slot s _ c.args.slot _ (in_slots s c.args.slot c.requires.there) c.copy_book.ensures in
    record { few = s.few; shallow = k.shallow; count = k.count; bids = k.bids; offers = k.offers }

pub returns : goal.returns
returns c =
    let s = c.args.self.now in
    record {
      after = slot_put (setup_of s) s.rows _ s.slots s.count c.args.slot _ s.owed (in_slots s c.args.slot c.requires.there) c.copy_book.ensures;
      stays = same-setup s _ c.copy_book.ensures.depth;
    }

pub overflow_add-slot : goal.overflow_add-slot
overflow_add-slot c = let i = in_slots c.args.self.now c.args.slot c.requires.there in search rules

pub copy_book-requires : goal.copy_book-requires
copy_book-requires c = let i = in_slots c.args.self.now c.args.slot c.requires.there in search rules
