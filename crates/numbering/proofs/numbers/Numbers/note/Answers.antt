use Rattle.std.proofs.Common.{◌^◌, arith}
use Rattle.numbering.specs.Spans.{held}
use Rattle.numbering.proofs.Places.{absent-since}
use Rattle.numbering.proofs.Counts.{count_most, count-more}
use Rattle.numbering.proofs.numbers.Numbers.note.Goals as goal

pub enter-requires-clause-absent : goal.enter-requires-clause-absent
enter-requires-clause-absent c = absent-since (held c.args.self.now.spans.list.items) c.args.n c.seen_at-seen.result c.seen_at-seen.ensures c.in-New.is

pub overflow_add-self : goal.overflow_add-self
overflow_add-self c = omega (arith, count_most (held c.args.self.now.spans.list.items) (2 ^ 32), c.args.self.now.total)

pub invariant_of-self-in-New : goal.invariant_of-self-in-New
invariant_of-self-in-New c =
    let before = held c.args.self.now.spans.list.items in
    let out = absent-since before c.args.n c.seen_at-seen.result c.seen_at-seen.ensures c.in-New.is in
    let more = count-more before (held c.enter.new.self.list.items) c.args.n (2 ^ 32) (omega (arith, c.ranges.n)) out c.in_ok-enter-in-New.ensures.1 in
    record { total = omega (arith, more, c.args.self.now.total) }
