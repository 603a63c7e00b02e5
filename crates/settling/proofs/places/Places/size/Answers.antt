use Rattle.std.proofs.Common.{◌%◌, ◌≤◌, subst}
use Rattle.std.proofs.Math.ListN.{get_or-map}
use Rattle.settling.proofs.places.Places.size.Goals as goal

pub returns-clause-small : goal.returns-clause-small
returns-clause-small c =
    let t = c.args.self.now in let i = c.args.k % 32 in
    subst (λ n. n ≤ 1400) (get_or-map (λ p. p.size) t.at i (record { number = 0; size = 0 })) (t.fit i)
