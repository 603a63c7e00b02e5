use Rattle.std.proofs.Common.{◌≡◌, ℕ, true, List, Option, Bor, sym, subst, rules}
use Rattle.std.specs.Option.{option_map}
use Rattle.numbering.specs.declared.span.Span.{Span}
use Rattle.numbering.specs.Spans.{held, rising}
use Rattle.numbering.specs.Answer.{Lowest}
use Rattle.numbering.specs.Members.{has}
use Rattle.numbering.proofs.Places.{rises_since}
use Rattle.numbering.proofs.Ends.{lowest_by_first}
use Rattle.numbering.proofs.numbers.Numbers.first.Goals as goal

pub returns : goal.returns
returns c =
    let spans = c.deref.result.now in
    let found : Option (Bor Span) = c.first.result in
    let is : c.map.result ≡ option_map (λ (s : Bor Span). s.now.low) found = search rules in
    let same = c.deref.ensures.value in
    let R : List Span → Type 0 = λ l. rising 0 l ≡ true in
    let F : List Span → Type 0 = λ l. Lowest (held l) (option_map (λ (s : Bor Span). s.now.low) found) in
    let item = c.first.ensures.item in
    let told = lowest_by_first spans _ found (rises_since 0 spans (subst R (sym same) c.args.self.now.spans.rises)) item.1 item.3 in
    subst (λ (o : Option ℕ). Lowest (has c.args.self.now) o) (sym is) (subst F same told)
