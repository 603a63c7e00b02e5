-- What noting packets does to the shares of a book's marks.
use Rattle.std.specs.Prelude.{ℕ, ◌+◌, ◌-◌, ◌^◌, min, cond, Some, None, Option, ◌==◌, nat_lt}
use Rattle.recovery.specs.declared.answers.Sign.{Sign}
use Rattle.recovery.specs.declared.answers.Sign.TheVariants.{Stale, Recovering, Current}
use Rattle.shares.specs.declared.share.Stretch.{Stretch}
use Rattle.shares.specs.declared.share.Share.{Share}

-- up to the largest count
abbrev pub capped : ℕ → ℕ
capped n = min n (2 ^ 64 - 1)

abbrev pub nothing : Share
nothing = record { current = 0; recovering = 0; stale = 0; now_stale = None; longest = None }

-- so many packets behind those of a stretch, which begins with the first of them where there was none
abbrev pub further : Option Stretch → ℕ → ℕ → ℕ → Stretch
further None times from to = record { packets = capped times; from = from; to = to }
further (Some s) times from to = record { packets = capped (s.packets + times); from = s.from; to = to }

-- the longer of two stretches, and the first where they are as long
abbrev pub longer : Option Stretch → Stretch → Stretch
longer None b = b
longer (Some a) b = cond (nat_lt a.packets b.packets) b a

-- a mark at one packet or more, with the highest numbers heard at the first and at the last of them
abbrev pub noted_some : Share → Sign → ℕ → ℕ → ℕ → Share
noted_some s Current times from to =
    record { current = capped (s.current + times); recovering = s.recovering; stale = s.stale; now_stale = None; longest = s.longest }
noted_some s Recovering times from to =
    record { current = s.current; recovering = capped (s.recovering + times); stale = s.stale; now_stale = None; longest = s.longest }
noted_some s Stale times from to =
    record {
      current = s.current;
      recovering = s.recovering;
      stale = capped (s.stale + times);
      now_stale = Some (further s.now_stale times from to);
      longest = Some (longer s.longest (further s.now_stale times from to));
    }

abbrev pub noted : Share → Sign → ℕ → ℕ → ℕ → Share
noted s sign times from to = cond (times == 0) s (noted_some s sign times from to)
