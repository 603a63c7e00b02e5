use Rattle.std.proofs.Common.{◌≡◌, codes, rules}
use Rattle.sheet_text.proofs.Words.{spelled}
use Rattle.commands.proofs.verb.worded_verb.Goals as goal

pub returns-in-offers : goal.returns-in-offers
returns-in-offers c =
    let e : c.args.word.now ≡ codes "offers" = spelled (codes "offers") _ (search rules) in
    rw e
