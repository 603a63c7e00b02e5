-- The shares of a book by the list of its marks, one at each packet, the newest first.
use Rattle.std.specs.Prelude.{◌≡◌, ℕ, ◌<◌, max, Bool, true, false, List, [], ◌∷◌, Some, None, Option, count_by}
use Rattle.std.specs.List.{prefix_len}
use Rattle.recovery.specs.declared.answers.Sign.{Sign}
use Rattle.recovery.specs.declared.answers.Sign.TheVariants.{Stale, Recovering, Current}
use Rattle.shares.specs.declared.share.Share.{Share}
use Rattle.shares.specs.declared.share.Stretch.{Stretch}
use Rattle.shares.specs.Noted.{capped}

abbrev pub is_current : Sign → Bool
is_current Current = true
is_current Recovering = false
is_current Stale = false

abbrev pub is_recovering : Sign → Bool
is_recovering Current = false
is_recovering Recovering = true
is_recovering Stale = false

abbrev pub is_stale : Sign → Bool
is_stale Current = false
is_stale Recovering = false
is_stale Stale = true

-- the most stale marks that stand one behind the other: the greatest, over all places, of the stale marks from there back
abbrev pub longest_of : List Sign → ℕ
longest_of [] = 0
longest_of (x ∷ marks) = max (prefix_len is_stale (x ∷ marks)) (longest_of marks)

-- a stretch of so many packets; none has no packet
abbrev pub Stretches : Option Stretch → ℕ → Type 0
Stretches None n = n ≡ 0
Stretches (Some s) n = (0 < n) × (s.packets ≡ capped n)

pub record Stands (s : Share) (marks : List Sign) : Type 0 where
  pub currents : s.current ≡ capped (count_by is_current marks)
  pub recoverings : s.recovering ≡ capped (count_by is_recovering marks)
  pub stales : s.stale ≡ capped (count_by is_stale marks)
  pub since : Stretches s.now_stale (prefix_len is_stale marks)
  pub most : Stretches s.longest (longest_of marks)
