use Rattle.std.proofs.Common.{[], Ok, refl, ap}
use Rattle.std.proofs.lemmas.Result.{err_from_is_err_and}
use Rattle.capture.specs.Held.{view}
use Rattle.capture.specs.Window.{seen}
use Rattle.capture.proofs.Parts.{rest-least}
use Rattle.capture.proofs.Walks.{left_end, left_fault, left-taken, stepped_fault}
use Rattle.capture.proofs.file.Capture.next.Goals as goal

pub returns-in_err-step : goal.returns-in_err-step
returns-in_err-step c =
    let s = c.args.self.now in
    let p = err_from_is_err_and c.from_residual.result c.from_residual.ensures.1 in
    let window = rest-least s.bytes.now c.min.result s.at c.min.ensures in
    let fault = left_fault s.format _ s.bytes.now s.at p.0 _ window p.2 (c.in_err-step.ensures.file [] (λ _. refl)) in
    stepped_fault s _ c.from_residual.result p.0 p.1 fault refl

pub returns-in-End : goal.returns-in-End
returns-in-End c =
    let s = c.args.self.now in
    let window = rest-least s.bytes.now c.min.result s.at c.min.ensures in
    (left_end s.format _ s.bytes.now s.at _ window (ap (λ x. seen (Ok x)) c.in-End.is) (c.in_ok-step.ensures.file [] (λ _. refl)), refl)

pub returns-in-Taken : goal.returns-in-Taken
returns-in-Taken c =
    let s = c.args.self.now in
    let window = rest-least s.bytes.now c.min.result s.at c.min.ensures in
    (left-taken s.format _ s.bytes.now s.at c.in-Taken.size (view c.in-Taken.frame) _ window (ap (λ x. seen (Ok x)) c.in-Taken.is) (c.in_ok-step.ensures.file [] (λ _. refl)), refl, refl)
