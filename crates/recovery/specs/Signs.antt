-- The word of each sign.
use Rattle.std.specs.Prelude.{ℕ, List, codes}
use Rattle.recovery.specs.declared.answers.Sign.{Sign}
use Rattle.recovery.specs.declared.answers.Sign.TheVariants.{Stale, Recovering, Current}

abbrev pub sign_word : Sign → List ℕ
sign_word Stale = codes "stale"
sign_word Recovering = codes "recovering"
sign_word Current = codes "current"
