-- Numbers of several bytes: what stands at an offset of some bytes, in either byte order.
use Rattle.std.specs.Prelude.{ℕ, zero, suc, ◌+◌, ◌*◌, ◌^◌, List, slice_index}
use Rattle.capture.specs.declared.order.ByteOrder.{ByteOrder}
use Rattle.capture.specs.declared.order.ByteOrder.TheVariants.{Little, Big}

-- the number of `width` bytes at `at`, the lowest byte first
abbrev pub little_at : List ℕ → ℕ → ℕ → ℕ
little_at bs at zero = 0
little_at bs at (suc width) = slice_index bs at + 256 * little_at bs (at + 1) width

-- the number of `width` bytes at `at`, the highest byte first
abbrev pub big_at : List ℕ → ℕ → ℕ → ℕ
big_at bs at zero = 0
big_at bs at (suc width) = slice_index bs at * 256 ^ width + big_at bs (at + 1) width

abbrev pub number_at : ByteOrder → List ℕ → ℕ → ℕ → ℕ
number_at Little bs at width = little_at bs at width
number_at Big bs at width = big_at bs at width
