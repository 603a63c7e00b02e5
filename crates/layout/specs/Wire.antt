-- Little-endian numbers: what stands at an offset of some bytes.
use Rattle.std.specs.Prelude.{ℕ, zero, suc, ◌+◌, ◌*◌, cond, List, length, Some, None, Option, nat_le, slice_index}
use Rattle.layout.specs.declared.width.Width.{Width}
use Rattle.layout.specs.declared.width.Width.TheVariants.{One, Two, Four, Eight}
use Rattle.layout.specs.declared.kinds.Spot.{Spot}

-- the number of `width` bytes at `at`, the lowest byte first
abbrev pub le_at : List ℕ → ℕ → ℕ → ℕ
le_at bs at zero = 0
le_at bs at (suc width) = slice_index bs at + 256 * le_at bs (at + 1) width

abbrev pub bytes_of : Width → ℕ
bytes_of One = 1
bytes_of Two = 2
bytes_of Four = 4
bytes_of Eight = 8

-- the number of `width` bytes at `at`, where the bytes reach that far
abbrev pub number_at : List ℕ → ℕ → ℕ → Option ℕ
number_at bs at width = cond (nat_le (at + width) (length bs)) (Some (le_at bs at width)) None

-- the field at a spot of a block or an entry
abbrev pub field_at : List ℕ → Spot → Option ℕ
field_at block s = number_at block s.offset (bytes_of s.width)
