use Rattle.std.proofs.Common.{◌≡◌, codes, rules}
use Rattle.sheet_text.proofs.Words.{spelled}
use Rattle.sheet_text.proofs.names.field.Goals as goal

pub returns-in-action : goal.returns-in-action
returns-in-action c =
    let e : c.args.word.now ≡ codes "action" = spelled (codes "action") _ (search rules) in
    rw e

pub returns-in-offers : goal.returns-in-offers
returns-in-offers c =
    let e : c.args.word.now ≡ codes "offers" = spelled (codes "offers") _ (search rules) in
    rw e

pub returns-in-security : goal.returns-in-security
returns-in-security c =
    let e : c.args.word.now ≡ codes "security" = spelled (codes "security") _ (search rules) in
    rw e

pub returns-in-position : goal.returns-in-position
returns-in-position c =
    let e : c.args.word.now ≡ codes "position" = spelled (codes "position") _ (search rules) in
    rw e
