-- What an event makes of the mark of an instrument.
use Rattle.std.specs.Prelude.{ℕ, ◌+◌, ◌^◌, ◌<◌, Bool, true, false, cond, ◌==◌, nat_le}
use Rattle.recovery.specs.declared.marks.Mark.{Mark}
use Rattle.recovery.specs.declared.marks.Mark.TheVariants.{Stale, AsOf}
use Rattle.recovery.specs.Groups.{idle}
use Rattle.settling.specs.declared.marks.Event.{Event}
use Rattle.settling.specs.declared.marks.Event.TheVariants.{Taken, Spoilt, Misfit, Aged, Whole}

-- whether a book stands at n
abbrev pub stands : ℕ → Mark → Bool
stands n Stale = false
stands n (AsOf m) = m == n

-- A packet concerns the books that stand before it; 33 or more behind the highest heard is too far; a whole snapshot that is
-- not idle sets the mark.
abbrev pub comes : Event → Mark → Mark
comes (Taken n) Stale = Stale
comes (Taken n) (AsOf m) = cond (m == n) (AsOf (n + 1)) (AsOf m)
comes (Spoilt n) Stale = Stale
comes (Spoilt n) (AsOf m) = cond (m == n) Stale (AsOf m)
comes Misfit Stale = Stale
comes Misfit (AsOf m) = Stale
comes (Aged h) Stale = Stale
comes (Aged h) (AsOf m) = cond (nat_le (m + 33) h) Stale (AsOf m)
comes (Whole n h) Stale = cond (idle Stale n h) Stale (AsOf n)
comes (Whole n h) (AsOf m) = cond (idle (AsOf m) n h) (AsOf m) (AsOf n)

-- a book that stood somewhere gets stale
abbrev pub falls : Mark → Mark → Bool
falls Stale y = false
falls (AsOf n) Stale = true
falls (AsOf n) (AsOf m) = false

-- the packet after n has a number
abbrev pub Small : Event → Type 0
Small (Taken n) = n + 1 < 2 ^ 64
Small (Spoilt n) = Unit {0}
Small Misfit = Unit {0}
Small (Aged h) = Unit {0}
Small (Whole n h) = Unit {0}
