use Rattle.std.proofs.Common.{◌≡◌, ◌<◌, ℕ, true, false, List, [], ◌∷◌, ◌++◌, length, slice_index_or, sym, refl, ap, ◌∙◌, subst, ⊎_elim, arith}
use Rattle.std.specs.Fn.{FnReturnsAt}
use Rattle.std.proofs.lemmas.Bool.{cases_lt}
use Rattle.std.proofs.lemmas.Fn.{says_at}
use Rattle.std.proofs.lemmas.List.{get_or_push, get_or_append_left}
use Rattle.destinations.proofs.find.find.Goals as goal

-- the last item of a list, and those before it
last_of : {X : Type 0} (rest front : List X) (y d : X) → rest ≡ front ++ y ∷ [] → slice_index_or rest (length front) d ≡ y
last_of rest front y d e = ap (λ l. slice_index_or l (length front) d) e ∙ get_or_push front y d (length front) refl

front_of : {X : Type 0} (rest front : List X) (y d : X) (k : ℕ) → rest ≡ front ++ y ∷ [] → k < length front → slice_index_or rest k d ≡ slice_index_or front k d
front_of rest front y d k e lt = ap (λ l. slice_index_or l k d) e ∙ get_or_append_left front (y ∷ []) d k lt

pub returns-then-passes-clause-found : goal.returns-then-passes-clause-found
returns-then-passes-clause-found g c =
    let at = c.in-Some.ensures.lookup.3 in
    (at.0, λ d. subst (λ (x : g.row.T.Denot). FnReturnsAt g.F.Fn c.args.passes x true) (at.1 d) (says_at g.F.Fn c.passes.ensures c.if-passes.true))

pub returns-then-passes-2-clause-found : goal.returns-then-passes-2-clause-found
returns-then-passes-2-clause-found g c =
    let inv = c.loop-item.invariant in
    let s = c.in-Some-split_last in
    let cut = s.ensures.cases in (
      omega (arith, inv.0, cut.1),
      λ d.
          subst (λ (x : g.row.T.Denot). FnReturnsAt g.F.Fn c.args.passes x true)
          (sym (inv.1 (length s.front.now) d (omega (arith, cut.1)) ∙ last_of c.loop-item.rest.now s.front.now s.item.now d cut.0))
          (says_at g.F.Fn c.passes-in-Some-split_last.ensures c.if-passes-2.true),
    )

pub loop-item-preserved : goal.loop-item-preserved
loop-item-preserved g c =
    let inv = c.loop-item.invariant in
    let rest = c.loop-item.rest.now in
    let s = c.in-Some-split_last in
    let front = s.front.now in
    let items = c.args.items.now in
    let cut = s.ensures.cases in (
      omega (arith, inv.0, cut.1),
      λ k d lt. inv.1 k d (omega (arith, lt, cut.1)) ∙ front_of rest front s.item.now d k cut.0 lt,
      λ k d le lt.
          ⊎_elim
          (λ below.
          let here : k ≡ length front = omega (arith, below, le, cut.1) in
          let is = ap (λ j. slice_index_or items j d) here ∙ (inv.1 (length front) d (omega (arith, cut.1)) ∙ last_of rest front s.item.now d cut.0) in
          subst (λ (x : g.row.T.Denot). FnReturnsAt g.F.Fn c.args.passes x false) (sym is) (says_at g.F.Fn c.passes-in-Some-split_last.ensures c.if-passes-2.false))
          (λ above. inv.2 k d above lt)
          (cases_lt k (length rest)),
    )

pub returns-clause-absent : goal.returns-clause-absent
returns-clause-absent g c = λ _ k d lt. c.loop-item.invariant.2 k d (omega (arith, c.in_default-split_last.ensures.cases)) lt
