-- When a book is to be looked at for a change.
use Rattle.std.specs.Prelude.{ℕ, Bool, true, false, not, ◌&&◌, ◌||◌, ◌==◌, nat_lt}
use Rattle.recovery.specs.declared.answers.Sign.{Sign}
use Rattle.recovery.specs.declared.answers.Sign.TheVariants.{Stale, Recovering, Current}

abbrev pub same_sign : Sign → Sign → Bool
same_sign Stale Stale = true
same_sign Stale Recovering = false
same_sign Stale Current = false
same_sign Recovering Stale = false
same_sign Recovering Recovering = true
same_sign Recovering Current = false
same_sign Current Stale = false
same_sign Current Recovering = false
same_sign Current Current = true

-- the mark changed; or the book was as of `before` and no more is, and a packet above `before` names its instrument, so that one of
-- those applied since may
abbrev pub look_due : Sign → ℕ → Sign → ℕ → ℕ → Bool
look_due told before sign number latest = not (same_sign told sign) || (not (before == number) && nat_lt before latest)

-- in a call that adopted some snapshot, this book was adopted: it stands, and was stale or as of an earlier packet; a book that was not
-- adopted can only fall, since nothing new lies on the shelf
abbrev pub shows_adoption : Sign → ℕ → Sign → ℕ → Bool
shows_adoption told before sign number = not (same_sign sign Stale) && (same_sign told Stale || nat_lt before number)
