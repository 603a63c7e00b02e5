use Rattle.std.proofs.Common.{◌≡◌, codes, rules}
use Rattle.sheet_text.proofs.Words.{spelled}
use Rattle.commands.proofs.verb.lone_verb.Goals as goal

pub returns-in-shelfsum : goal.returns-in-shelfsum
returns-in-shelfsum c =
    let e : c.args.word.now ≡ codes "shelfsum" = spelled (codes "shelfsum") _ (search rules) in
    rw e
