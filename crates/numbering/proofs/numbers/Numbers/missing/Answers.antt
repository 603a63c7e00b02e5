use Rattle.std.proofs.Common.{◌^◌, arith}
use Rattle.std.proofs.lemmas.Bool.{both_ways}
use Rattle.numbering.specs.Members.{has}
use Rattle.numbering.proofs.Ends.{came-and-lacking}
use Rattle.numbering.proofs.numbers.Numbers.missing.Goals as goal

pub overflow_sub-result-in-Some-Some : goal.overflow_sub-result-in-Some-Some
overflow_sub-result-in-Some-Some c =
    let f = has c.args.self.now in
    let all = came-and-lacking f c.in-Some-Some.first c.in-Some-Some.last (2 ^ 32) c.in-Some-Some.ensures c.in-Some-Some.ensures' (omega arith) in
    omega (arith, all.0, all.1, c.args.self.now.total, c.from.ensures, c.from-in-Some-Some.ensures)

pub returns-in-Some-Some : goal.returns-in-Some-Some
returns-in-Some-Some c =
    let f = has c.args.self.now in
    let low = c.in-Some-Some.ensures in
    let high = c.in-Some-Some.ensures' in (
      λ none. absurd (both_ways (f c.in-Some-Some.first) (none c.in-Some-Some.first) low.0),
      λ a b first last.
          let all = came-and-lacking f a b (2 ^ 32) first last (omega (arith, high.1 b last.0)) in
          omega (arith, all.0, all.1, low.1 a first.0, first.1 c.in-Some-Some.first low.0, high.1 b last.0, last.1 c.in-Some-Some.last high.0, c.args.self.now.total, c.from.ensures, c.from-in-Some-Some.ensures),
    )
