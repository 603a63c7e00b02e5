-- Where a search for a template may start.
use Rattle.std.specs.Prelude.{ℕ, ◌%◌, ◌<◌, ◌≤◌, List, map, length, slice_index}
use Rattle.layout.specs.declared.template.Template.{Template}

abbrev pub ids_of : List Template → List ℕ
ids_of ts = map (λ t. t.id) ts

-- no number stands before the place that is noted for its remainder by 256
abbrev pub Near : List ℕ → List ℕ → Type 0
Near ids first = (k : ℕ) → k < length ids → slice_index first (slice_index ids k % 256) ≤ k
