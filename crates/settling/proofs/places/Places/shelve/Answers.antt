use Rattle.std.proofs.Common.{◌%◌, ◌≤◌, get_or, sym, ◌∙◌, subst, arith, length-set}
use Rattle.std.proofs.lemmas.List.{length-map, map-set}
use Rattle.settling.specs.Placed.{numbers_of, sizes_of}
use Rattle.settling.proofs.Bounds.{bounded}
use Rattle.settling.proofs.places.Places.shelve.Goals as goal

pub invariant_of-self : goal.invariant_of-self
invariant_of-self c =
    let t = c.args.self.now in let q = c.args.q in let n = c.args.n in
    let numbers = map-set (λ p. p.number) t.at (q % 32) (record { number = q; size = n }) in
    let sizes = map-set (λ p. p.size) t.at (q % 32) (record { number = q; size = n }) in
    record {
      places = length-set t.at _ _ ∙ t.places;
      low = λ p. subst (λ l. get_or l p 0 ≤ c.max-self.result) (sym numbers)
          (bounded (numbers_of t.at) (q % 32) q c.max-self.result (omega (arith, t.places, length-map t.at (λ p. p.number))) (omega arith) (λ p. omega (arith, t.low p)) p);
      fit = λ p. subst (λ l. get_or l p 0 ≤ 1400) (sym sizes)
          (bounded (sizes_of t.at) (q % 32) n 1400 (omega (arith, t.places, length-map t.at (λ p. p.size))) c.requires t.fit p);
    }

pub returns : goal.returns
returns c =
    let t = c.args.self.now in let q = c.args.q in let n = c.args.n in
    (c.max-self.ensures, map-set (λ p. p.number) t.at (q % 32) (record { number = q; size = n }), map-set (λ p. p.size) t.at (q % 32) (record { number = q; size = n }))
