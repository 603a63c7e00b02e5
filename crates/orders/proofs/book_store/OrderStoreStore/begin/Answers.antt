use Rattle.orders.specs.Model.{setup_of}
use Rattle.orders.proofs.Slots.{staged-put}
use Rattle.orders.proofs.Answering.{same-setup}
use Rattle.orders.proofs.book_store.OrderStoreStore.begin.Goals as goal

pub returns : goal.returns
returns c =
    let s = c.args.self.now in
    record {
      after = staged-put (setup_of s) s.rows _ s.slots s.count _ s.owed _ c.clear_book.ensures;
      stays = same-setup s _ c.clear_book.ensures.depth;
    }
