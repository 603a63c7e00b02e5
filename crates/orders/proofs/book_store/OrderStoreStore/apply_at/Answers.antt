use Rattle.std.proofs.Common.{◌∙◌, rules}
use Rattle.message.specs.Views.{meant}
use Rattle.orders.specs.Kind.{after_book}
use Rattle.orders.specs.Model.{setup_of}
use Rattle.orders.proofs.Slots.{sound_slot}
use Rattle.orders.proofs.Answering.{in_slots, fits_slot, put_or_not, same-setup}
use Rattle.orders.proofs.book_store.OrderStoreStore.apply_at.Goals as goal

pub invariant_of-self : goal.invariant_of-self
invariant_of-self c =
    let s = c.args.self.now in
    let k = sound_slot s _ c.args.slot _ (in_slots s c.args.slot c.requires) c.apply_in.ensures.puts in
    record { few = s.few; shallow = k.shallow; count = k.count; bids = k.bids; offers = k.offers }

pub returns : goal.returns
returns c =
    let s = c.args.self.now in
    let i = in_slots s c.args.slot c.requires in
    record {
      fits = c.apply_in.ensures.fits ∙ fits_slot s c.args.slot (meant c.args.m.now) i;
      after = put_or_not s _ c.args.slot c.apply_in.result (λ v. after_book (setup_of s) v (meant c.args.m.now)) i c.apply_in.ensures.puts;
      stays = same-setup s _ c.apply_in.ensures.puts.depth;
    }

pub overflow_add-slot : goal.overflow_add-slot
overflow_add-slot c = let i = in_slots c.args.self.now c.args.slot c.requires in search rules

pub apply_in-requires : goal.apply_in-requires
apply_in-requires c = let i = in_slots c.args.self.now c.args.slot c.requires in search rules
