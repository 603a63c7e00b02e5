use Rattle.message.specs.Views.{view}
use Rattle.settling.specs.Watched.{watch_of}
use Rattle.settling.proofs.Meeting.{hand_elsewhere, hand_named}
use Rattle.settling.proofs.steps.hand.Goals as goal

pub returns-in-Some-clause-books : goal.returns-in-Some-clause-books
returns-in-Some-clause-books g c = let w = c.args.w.now in
    hand_named _ (watch_of w) _ _ c.args.n (view c.args.m.now) _ _ _ w.apart c.in-Some.ensures.slot c.heed.ensures.book

pub returns-in_default-clause-books : goal.returns-in_default-clause-books
returns-in_default-clause-books g c = let w = c.args.w.now in
    hand_elsewhere _ (watch_of w) _ _ c.args.n (view c.args.m.now) w.apart c.in_default.ensures.slot
