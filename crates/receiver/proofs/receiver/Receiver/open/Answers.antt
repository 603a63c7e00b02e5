use Rattle.std.proofs.Common.{length, sym, ap}
use Rattle.settling.specs.Watched.{watch_of}
use Rattle.receiver.specs.Standings.{attended}
use Rattle.receiver.proofs.Fresh.{opens-fresh, listed}
use Rattle.receiver.proofs.receiver.Receiver.open.Goals as goal

pub new-requires : goal.new-requires
new-requires g c = let a = listed c.args.watch.now c.args.version (length (g.S.Store.model c.args.store.now).slots) c.requires in (a.0, a.1)

pub new_plain-requires : goal.new_plain-requires
new_plain-requires g c = (listed c.args.watch.now c.args.version (length (g.S.Store.model c.args.store.now).slots) c.requires).0

pub invariant_of-result : goal.invariant_of-result
invariant_of-result g c = record { attends = ap (attended (watch_of c.new.result)) c.new_plain.ensures.others.3 }

pub returns : goal.returns
returns g c =
    let m = g.S.Store in let K = m.kind (m.setup c.args.store.now) in let e = c.new_plain.ensures.others in
    record {
      opening = ap (λ w. record { channel = c.args.channel; version = c.args.version; own = c.args.own; watch = w; sheet = c.args.sheet }) c.new.ensures;
      state = λ bytes. opens-fresh K (record { channel = c.args.channel; version = c.args.version; own = c.args.own; watch = c.new.result; sheet = c.args.sheet }) c.new_plain.result (m.model c.args.store.now) (m.model c.freshen_all.new.store) (length c.args.watch.now) bytes
          (ap length (sym c.new.ensures)) e.0 e.1 e.2 e.3 c.new_plain.ensures.marks c.freshen_all.ensures.values c.freshen_all.ensures.rest;
      stays = c.freshen_all.ensures.stays;
    }
