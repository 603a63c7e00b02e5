use Rattle.hex_digits.proofs.Pairs.{long}
use Rattle.hex_digits.proofs.decode.Goals as goal

pub returns-in_default : goal.returns-in_default
returns-in_default c = rw (← long c.args.word.now c.in_default.len_at_least) c.digits.ensures
