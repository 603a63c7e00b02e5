use Rattle.std.proofs.Common.{◌≡◌, ◌≢◌, ◌+◌, ◌-◌, ◌<◌, drop, get_or, length, length-drop, ◌∙◌, arith, rules, tests}
use Rattle.std.specs.Option.{option_map_or}
use Rattle.std.proofs.lemmas.List.{take_all}
use Rattle.std.proofs.lemmas.Iterator.{YieldsList-from_slice, IsFirst-from_position}
use Rattle.coverage.proofs.Alike.{run_of}
use Rattle.coverage.proofs.geometry.run_end.Goals as goal

pub returns : goal.returns
returns c =
    let cells = c.args.cells.now in
    let from = c.args.from in
    let first = c.in-Some.first.now in
    let lt : from < length cells = c.in-Some.ensures.lookup.3.0 in
    let is : first ≡ get_or cells from 0 = c.in-Some.ensures.lookup.3.1 0 in
    let rest : c.iter.result.rest.now ≡ drop from cells = c.iter.ensures.rest ∙ take_all (length cells - from) (drop from cells) (omega (arith, length-drop from cells)) in
    let end : c.map_or.result ≡ option_map_or (λ i. from + i) c.position-run.result (length cells) = search rules in
    run_of cells from first lt is c.position-run.result c.map_or.result end
    (IsFirst-from_position _ _ c.position-run.result (λ x. x ≢ first) (λ x. x ≡ first) c.position-run.ensures.ran
    (YieldsList-from_slice (drop from cells) rest) (λ x q k. search (rules, tests)) (λ x q k. search (rules, tests)))
