-- What kind of feed a destination is, by the kinds of the messages that came.
use Rattle.std.specs.Prelude.{ℕ, ◌*◌, Bool, cond, ◌||◌, List, nat_le, nat_lt, slice_index}
use Rattle.destinations.specs.declared.feeds.Feed.{Feed}
use Rattle.destinations.specs.declared.feeds.Feed.TheVariants.{Snapshot, Incremental, Statistics, Nothing}

abbrev pub came : List ℕ → ℕ → Bool
came kinds kind = nat_lt 0 (slice_index kinds kind)

-- headers and entries are sent in snapshots alone; orders, deletions, mass deletions and empty books never; statistics are in both
abbrev pub feed_of : List ℕ → Feed
feed_of kinds =
    cond (came kinds 5 || came kinds 6) Snapshot
    (cond (came kinds 0 || (came kinds 1 || (came kinds 2 || came kinds 3))) Incremental
    (cond (came kinds 4) Statistics Nothing))

abbrev pub nearly_all : ℕ → ℕ → Bool
nearly_all part all = nat_le (all * 99) (part * 100)
