use Rattle.std.proofs.Common.{◌≤◌, ◌+◌, ◌≡◌, List, length, take, drop, sym, subst, arith, rules}
use Rattle.std.proofs.lemmas.List.Sorted.{IsPartitionPoint-from_clause}
use Rattle.numbering.specs.declared.span.Span.{Span}
use Rattle.numbering.specs.Spans.{Rises, Clear, Near}
use Rattle.numbering.proofs.Places.{rises_since, clear-by-last, far, far_first, clear_before, near_from}
use Rattle.numbering.proofs.spans.Spans.place.Goals as goal

pub returns-in-Some-clause-before : goal.returns-in-Some-clause-before
returns-in-Some-clause-before c =
    let xs = c.deref.result.now in
    let R : List Span → Type 0 = λ l. Rises 0 l in
    let C : List Span → Type 0 = λ l. Clear c.args.n (take c.len.result l) in
    let rises = subst R (sym c.deref.ensures.value) (rises_since 0 c.args.self.now.list.items c.args.self.now.rises) in
    let item = c.in-Some.ensures.item in
    let above : c.in-Some.last.now.high + 2 ≤ c.args.n = grind (arith) in
    let all : c.len.result ≡ length xs = omega (arith, c.len.ensures, c.deref.ensures.len) in
    subst C c.deref.ensures.value (clear-by-last c.args.n c.len.result c.in-Some.last.now xs rises item.3.0 item.1 above all)

pub returns-in_default-clause-before : goal.returns-in_default-clause-before
returns-in_default-clause-before c =
    let xs = c.deref-in_default.result.now in
    let i = c.partition_point.result in
    let R : List Span → Type 0 = λ l. Rises 0 l in
    let C : List Span → Type 0 = λ l. Clear c.args.n (take i l) in
    let rises = subst R (sym c.deref-in_default.ensures.value) (rises_since 0 c.args.self.now.list.items c.args.self.now.rises) in
    let point = IsPartitionPoint-from_clause (far c.args.n) xs i c.partition_point.ensures.partitioned (far_first c.args.n xs rises) (λ a r q k. search rules) in
    subst C c.deref-in_default.ensures.value (clear_before i c.args.n xs rises c.partition_point.ensures.bound point.0)

pub returns-in_default-clause-behind : goal.returns-in_default-clause-behind
returns-in_default-clause-behind c =
    let xs = c.deref-in_default.result.now in
    let i = c.partition_point.result in
    let R : List Span → Type 0 = λ l. Rises 0 l in
    let N : List Span → Type 0 = λ l. Near c.args.n (drop i l) in
    let rises = subst R (sym c.deref-in_default.ensures.value) (rises_since 0 c.args.self.now.list.items c.args.self.now.rises) in
    let point = IsPartitionPoint-from_clause (far c.args.n) xs i c.partition_point.ensures.partitioned (far_first c.args.n xs rises) (λ a r q k. search rules) in
    subst N c.deref-in_default.ensures.value (near_from i c.args.n xs c.partition_point.ensures.bound point.1)
