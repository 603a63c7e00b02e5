-- The numbers of the refusals.
use Rattle.std.specs.Prelude.{◌≡◌, ℕ, ◌<◌, ◌⊎◌, Result, MatchResult}
use Rattle.refusal.specs.declared.Reason.{Reason}
use Rattle.refusal.specs.declared.Reason.TheVariants.{Size, Empty, Torn, Length, Encoding, Schema, Block, Group, Channel, Version, Number, Late, Join, Shelf, Instrument, Opening, Sheet, Slot, Unfit, Owed}
use Rattle.refusal.specs.declared.UnknownReason.{UnknownReason}

abbrev pub number_of : Reason → ℕ
number_of Size = 1
number_of Empty = 2
number_of Torn = 3
number_of Length = 4
number_of Encoding = 5
number_of Schema = 6
number_of Block = 7
number_of Group = 8
number_of Channel = 9
number_of Version = 10
number_of Number = 11
number_of Late = 12
number_of Join = 13
number_of Shelf = 14
number_of Instrument = 15
number_of Opening = 16
number_of Sheet = 17
number_of Slot = 18
number_of Unfit = 19
number_of Owed = 20

-- the result is the reason with this number, or an error with a number that no reason has
abbrev pub Decodes : ℕ → Result Reason UnknownReason → Type 0
Decodes n r = MatchResult r (λ reason. number_of reason ≡ n) (λ e. (e.0 ≡ n) × ((n ≡ 0) ⊎ (20 < n)))
