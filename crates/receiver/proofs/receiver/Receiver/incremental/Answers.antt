use Rattle.std.proofs.Common.{length, Ok, sym, refl, ap, ◌∙◌}
use Rattle.receiver.specs.Standings.{opening_of, plain_of}
use Rattle.receiver.proofs.Accepted.{judges, taken}
use Rattle.settling.specs.Placed.{numbers_of, sizes_of}
use Rattle.receiver.proofs.receiver.Receiver.incremental.Goals as goal

pub returns-in-Taken : goal.returns-in-Taken
returns-in-Taken g c =
    let u = c.args.self.now.sub in let p = c.args.self.now.plain in let s = c.args.shelf.now in
    let o = ap Ok (sym c.in-Taken.is) ∙ c.in_ok-judge.ensures ∙ judges (opening_of u) (plain_of u.sheet p s) (numbers_of p.places.at) (sizes_of p.places.at) c.args.bytes.now s (length s) refl in
    record {
      answer = o;
      shelf = taken _ _ _ _ o c.receive.ensures.shelf;
      state = taken _ _ _ _ o c.receive.ensures.state;
      opening = refl;
      stays = c.receive.ensures.stays;
    }
