use Rattle.std.proofs.Common.{◌^◌, sym, ap}
use Rattle.numbering.specs.Spans.{held, rising}
use Rattle.numbering.proofs.Counts.{count_none}
use Rattle.numbering.proofs.numbers.Numbers.new.Goals as goal

pub invariant_of-result : goal.invariant_of-result
invariant_of-result c = record { rises = ap (λ l. rising 0 l) c.new.ensures.items }

pub invariant_of-result-2 : goal.invariant_of-result-2
invariant_of-result-2 c = record { total = sym (count_none (held c.new.result.items) (2 ^ 32) (λ m. ap (λ l. held l m) c.new.ensures.items)) }
