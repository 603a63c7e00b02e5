-- The bands of the watched instruments by slot, and before and after a change of one.
use Rattle.std.specs.Prelude.{◌≡◌, ℕ, vec_items, vec_len, ◌≢◌, slice_index_or}
use Rattle.coverage.specs.declared.band.Band.{Band}
use Rattle.coverage.specs.declared.coverage.Coverage.{Coverage}

abbrev pub count : Coverage → ℕ
count c = vec_len c.bands

-- the band of a slot; past the last one, `d`
abbrev pub band_at : Coverage → ℕ → Band → Band
band_at c slot d = slice_index_or (vec_items c.bands) slot d

-- all bands but that of a slot stay
pub record Beside (before after : Coverage) (slot : ℕ) : Type 0 where
  pub number : count after ≡ count before
  pub others : (q : ℕ) (d : Band) → (q ≢ slot) → band_at after q d ≡ band_at before q d
