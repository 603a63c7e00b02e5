use Rattle.std.proofs.Common.{◌≡◌, ◌+◌, ◌<◌, length, is_ok, sym, ap, ◌∙◌, subst}
use Rattle.packet.specs.Rules.{packet_check, packet_head}
use Rattle.recovery.specs.Shelf.{part_of, written}
use Rattle.receiver.specs.Standings.{opening_of}
use Rattle.receiver.proofs.Accepted.{accepted}
use Rattle.receiver.proofs.Laying.{part_here, receives}
use Rattle.settling.specs.Placed.{sizes_of}
use Rattle.receiver.proofs.plain.Plain.receive.Goals as goal

pub head_of-requires : goal.head_of-requires
head_of-requires g c = (accepted (opening_of c.args.sub.now) _ _ (length c.args.shelf.now) c.args.bytes.now _ c.requires).whole

pub lay-requires : goal.lay-requires
lay-requires g c = let a = accepted (opening_of c.args.sub.now) _ _ (length c.args.shelf.now) c.args.bytes.now _ c.requires in (a.long, a.small)

pub shelve-requires : goal.shelve-requires
shelve-requires g c = (accepted (opening_of c.args.sub.now) _ _ (length c.args.shelf.now) c.args.bytes.now _ c.requires).small

pub renew-requires : goal.renew-requires
renew-requires g c =
    let a = accepted (opening_of c.args.sub.now) _ _ (length c.args.shelf.now) c.args.bytes.now _ c.requires in
    let t = c.args.self.now.places in let e = c.shelve.ensures in let q = c.from-q.result in
    ap (λ z. is_ok (packet_check c.args.sub.now.sheet (part_of (sizes_of c.shelve.new.self.at) z q))) c.lay.ensures
    ∙ ap (λ z. is_ok (packet_check c.args.sub.now.sheet z)) (part_here c.args.sub.now.sheet t c.shelve.new.self c.args.shelf.now c.args.bytes.now q a.long a.small e.0 e.1 e.2)
    ∙ a.whole

pub returns : goal.returns
returns g c =
    let a = accepted (opening_of c.args.sub.now) _ _ (length c.args.shelf.now) c.args.bytes.now _ c.requires in
    let e = c.shelve.ensures in let q = c.from-q.result in let bs = c.args.bytes.now in
    let is : q ≡ (packet_head bs).number = c.from-q.ensures ∙ ap (λ h. h.number) c.head_of.ensures in
    let pos : 0 < q = subst (λ n. 0 < n) (sym is) a.counted in
    let late : c.args.self.now.places.heard < q + 32 = subst (λ n. c.args.self.now.places.heard < n + 32) (sym is) a.near in
    record {
      shelf = c.lay.ensures ∙ ap (λ n. written c.args.shelf.now n bs) is;
      state = receives (g.S.Store.kind (g.S.Store.setup c.args.store.now)) c.args.sub.now c.args.self.now (g.S.Store.model c.args.store.now) c.args.shelf.now c.lay.new.shelf bs q c.shelve.new.self _
          a.long a.small pos late is c.lay.ensures e.0 e.1 e.2 c.renew.ensures.state;
      pending = c.renew.ensures.pending;
      stays = c.renew.ensures.stays;
    }
