use Rattle.sheet_text.specs.Text.{rows}
use Rattle.sheet_text.proofs.Openings.{wrong_first, wrong_third, wrong_fourth, opens}
use Rattle.sheet_text.proofs.opening.opening.Goals as goal

pub returns : goal.returns
returns c =
    let p = c.in-Some-action_line.ensures.value in
    record { value = (p.0, (opens _ _ _ _ _ p.0 c.in-Some.ensures p.1.0 c.in-Some-behind.ensures c.in-Some-behind-2.ensures, p.1.1)); different = c.in-Some-action_line.ensures.different }

pub returns-in_default : goal.returns-in_default
returns-in_default c = record { value = wrong_first (rows c.args.text.now) c.in_default.ensures; different = tt }

pub returns-in_default-behind : goal.returns-in_default-behind
returns-in_default-behind c =
    let p = c.in-Some-action_line.ensures.value in
    record { value = wrong_third _ _ _ p.0 _ c.in-Some.ensures p.1.0 p.1.1 c.in_default-behind.ensures; different = tt }

pub returns-in_default-behind-2 : goal.returns-in_default-behind-2
returns-in_default-behind-2 c =
    let p = c.in-Some-action_line.ensures.value in
    record { value = wrong_fourth _ _ _ _ p.0 _ c.in-Some.ensures p.1.0 p.1.1 c.in-Some-behind.ensures c.in_default-behind-2.ensures; different = tt }
