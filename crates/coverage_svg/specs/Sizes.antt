-- The sizes of a row: its height by the number of bands, and that what stands in it fits.
use Rattle.std.specs.Prelude.{ℕ, ◌+◌, ◌<◌, cond, nat_le}
use Rattle.coverage_svg.specs.declared.sizes.Rows.{Rows}

abbrev pub pitch_for : ℕ → ℕ
pitch_for bands = cond (nat_le bands 8) 38 (cond (nat_le bands 24) 24 16)

-- a band and the mark of an adoption above it do not reach the next row, nor does the text
abbrev pub Fits : Rows → Type 0
Fits r = (r.band + r.tick < r.pitch) × (r.text < r.pitch)
