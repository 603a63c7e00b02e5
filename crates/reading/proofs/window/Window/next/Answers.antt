use Rattle.std.proofs.Common.{ℕ, ◌-◌, List, length, take, drop, Ok, refl, subst, arith}
use Rattle.std.proofs.lemmas.List.{take_rest}
use Rattle.capture.specs.declared.step.Step.{Step}
use Rattle.capture.specs.Held.{view}
use Rattle.capture.specs.Window.{Agrees, seen}
use Rattle.reading.proofs.Steps.{next-record, none-left}
use Rattle.reading.proofs.window.Window.next.Goals as goal

pub returns-in-Taken-clause-shows : goal.returns-in-Taken-clause-shows
returns-in-Taken-clause-shows c = λ small rest last.
    let s = c.args.self.now in
    let w = s.part.bytes.now in
    let part = take (length w - s.at) (drop s.at w) in
    let off = c.saturating_add.result in
    let A : List ℕ → Step → Type 0 = λ rest x. Agrees s.part.format part rest off (seen (Ok x)) in
    next-record s.part.format w part rest s.part.offset s.at off c.in-Taken.size (view c.in-Taken.frame) (take_rest w s.at)
    (omega (arith, c.saturating_add.ensures, s.within, small))
    (subst (A rest) c.in-Taken.is (c.in_ok-frame.ensures.file rest last)).2

pub returns-in-More : goal.returns-in-More
returns-in-More c =
    let s = c.args.self.now in
    let w = s.part.bytes.now in
    let found = c.in_ok-frame.ensures in
    record {
      shows = λ small rest last. (
        refl,
        λ ends.
            none-left s.part.format w _ rest s.part.offset s.at c.saturating_add.result s.part.last _ (take_rest w s.at)
            (omega (arith, c.saturating_add.ensures, s.within, small)) ends found.value (found.file rest last) c.in-More.is,
      );
      moves = omega arith;
      same = refl;
    }
