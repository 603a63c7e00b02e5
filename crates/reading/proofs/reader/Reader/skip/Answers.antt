use Rattle.std.proofs.Common.{ℕ, ◌-◌, ◌≤◌, List, length, take, vec_items, refl, ap, ◌∙◌, arith, rules}
use Rattle.reading.proofs.Skips.{skipped}
use Rattle.reading.proofs.reader.Reader.skip.Goals as goal

pub returns : goal.returns
returns c =
    let s = c.args.self.now in
    let u = c.min-used.result in
    let xs = vec_items s.buffer in
    let long : s.held ≤ length xs = omega (arith, s.within, s.buffer.ok.0) in
    record {
      bytes = ap (λ (l : List ℕ). take (s.held - u) l) c.copy_within.ensures.items ∙ skipped xs s.held c.args.used u long (omega (arith, c.min-used.ensures));
      offset = search rules;
      format = refl;
    }
