use Rattle.std.proofs.Common.{◌≡◌, codes, rules}
use Rattle.sheet_text.proofs.Words.{spelled}
use Rattle.sheet_text.proofs.names.kind.Goals as goal

pub returns-in-delete : goal.returns-in-delete
returns-in-delete c =
    let e : c.args.word.now ≡ codes "delete" = spelled (codes "delete") _ (search rules) in
    rw e

pub returns-in-header : goal.returns-in-header
returns-in-header c =
    let e : c.args.word.now ≡ codes "header" = spelled (codes "header") _ (search rules) in
    rw e

pub returns-in-entries : goal.returns-in-entries
returns-in-entries c =
    let e : c.args.word.now ≡ codes "entries" = spelled (codes "entries") _ (search rules) in
    rw e
