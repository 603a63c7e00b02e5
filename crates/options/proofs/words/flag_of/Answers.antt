use Rattle.std.proofs.Common.{◌≡◌, codes, rules}
use Rattle.sheet_text.proofs.Words.{spelled}
use Rattle.options.proofs.words.flag_of.Goals as goal

pub returns-in-45 : goal.returns-in-45
returns-in-45 c = let e : c.args.word.now ≡ codes "--panel" = spelled (codes "--panel") _ (search rules) in rw e

pub returns-in-45-2 : goal.returns-in-45-2
returns-in-45-2 c = let e : c.args.word.now ≡ codes "--progress" = spelled (codes "--progress") _ (search rules) in rw e

pub returns-in-45-3-2 : goal.returns-in-45-3-2
returns-in-45-3-2 c = let e : c.args.word.now ≡ codes "--help" = spelled (codes "--help") _ (search rules) in rw e
