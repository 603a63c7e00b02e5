use Rattle.orders.proofs.Answering.{taken_bid, taken_offer, same-setup}
use Rattle.orders.proofs.order_store.OrderStore.take_entry.Goals as goal

pub invariant_of-self : goal.invariant_of-self
invariant_of-self c =
    let s = c.args.self.now in
    let k = (taken_bid s _ c.args.e.now c.if-not-fits_entry.ensures c.if-e-eq48.true c.push.ensures).2 in
    record { few = s.few; shallow = k.shallow; count = k.count; bids = k.bids; offers = k.offers }

pub invariant_of-self-else-e-eq48 : goal.invariant_of-self-else-e-eq48
invariant_of-self-else-e-eq48 c =
    let s = c.args.self.now in
    let k = (taken_offer s _ c.args.e.now c.if-not-fits_entry.ensures c.if-e-eq48.false c.push-else-e-eq48.ensures).2 in
    record { few = s.few; shallow = k.shallow; count = k.count; bids = k.bids; offers = k.offers }

pub returns-then-e-eq48 : goal.returns-then-e-eq48
returns-then-e-eq48 c =
    let s = c.args.self.now in
    let l = taken_bid s _ c.args.e.now c.if-not-fits_entry.ensures c.if-e-eq48.true c.push.ensures in
    record { fits = l.0; after = l.1; stays = same-setup s _ c.push.ensures.depth }

pub returns-else-e-eq48 : goal.returns-else-e-eq48
returns-else-e-eq48 c =
    let s = c.args.self.now in
    let l = taken_offer s _ c.args.e.now c.if-not-fits_entry.ensures c.if-e-eq48.false c.push-else-e-eq48.ensures in
    record { fits = l.0; after = l.1; stays = same-setup s _ c.push-else-e-eq48.ensures.depth }
