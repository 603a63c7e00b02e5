use Rattle.std.proofs.Common.{◌≡◌, ◌+◌, ◌^◌, ◌<◌, Option, Ok, length, sym, ap, ◌∙◌, subst, arith}
use Rattle.capture.specs.declared.frame.Frame.{Frame}
use Rattle.capture.specs.declared.part.Part.{Part}
use Rattle.capture.specs.Tally.{tallied}
use Rattle.reading.specs.Window.{ahead, Shows}
use Rattle.survey.proofs.drain.drain.Goals as goal

-- what is told of one part is told of the part that it is
small-of : (p q : Part) → p ≡ q → q.offset + length q.bytes.now < 2 ^ 64 → p.offset + length p.bytes.now < 2 ^ 64
small-of p q e small = subst (λ (x : Part). x.offset + length x.bytes.now < 2 ^ 64) (sym e) small

pub loop-frame-preserved : goal.loop-frame-preserved
loop-frame-preserved c =
    let inv = c.loop-frame.invariant in
    let told = c.in-Ok-Some.ensures in
    let t = c.loop-frame.table.tally in (
      told.same ∙ inv.0,
      omega (arith, told.moves, inv.1),
      λ small rest last.
          let S : Option Frame → Type 0 = λ x. Shows c.loop-frame.window rest (Ok x) c.next.new.self in
          let here = subst S c.in-Ok-Some.field-0-is (told.shows (small-of _ _ inv.0 small) rest (λ e. last (sym (ap (λ (p : Part). p.last) inv.0) ∙ e))) in
          inv.2 small rest last ∙ (ap (λ l. tallied t l) here ∙ ap (λ x. tallied x (ahead c.next.new.self rest)) (sym c.in_ok-note-in-Ok-Some.ensures)),
    )

pub returns-in-Ok-None-clause-tally : goal.returns-in-Ok-None-clause-tally
returns-in-Ok-None-clause-tally c = λ small rest last.
    let inv = c.loop-frame.invariant in
    let t = c.loop-frame.table.tally in
    let S : Option Frame → Type 0 = λ x. Shows c.loop-frame.window rest (Ok x) c.next.new.self in
    let ends = ap (λ (p : Part). p.last) inv.0 in
    let here = subst S c.in-Ok-None.field-0-is (c.in-Ok-None.ensures.shows (small-of _ _ inv.0 small) rest (λ e. last (sym ends ∙ e))) in (
      inv.2 small rest last ∙ ap (λ l. tallied t l) (sym here.0),
      λ is. inv.2 small rest last ∙ ap (λ l. tallied t l) (here.1 (ends ∙ is)),
    )
