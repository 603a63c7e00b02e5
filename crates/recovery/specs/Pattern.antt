-- The sheet of the example: a statistic and a snapshot's header, each field one byte wide.
use Rattle.std.specs.Prelude.{ℕ, zero, suc, ◌%◌, ◌<◌, ◌≤◌, [], ◌∷◌, replicate, slice_index, refl}
use Rattle.std.proofs.Common.{arith, lit≤}
use Rattle.layout.specs.declared.width.Width.TheVariants.{One}
use Rattle.layout.specs.declared.kinds.Spot.{Spot}
use Rattle.layout.specs.declared.kinds.Layout.TheVariants.{Stat, Header}
use Rattle.layout.specs.declared.template.Template.{Template}
use Rattle.layout.specs.declared.sheet.Sheet.{Sheet}

abbrev pub byte_at : ℕ → Spot
byte_at n = record { offset = n; width = One }

-- template 1 is a statistic, template 2 a snapshot's header
abbrev pub stat_template : Template
stat_template = record { id = 1; layout = Stat (record { security = byte_at 0; value = byte_at 1 }); root = 2; entry = 0; root_reach = refl; entry_reach = refl }

abbrev pub header_template : Template
header_template = record {
  id = 2;
  layout = Header (record { security = byte_at 0; last = byte_at 1; bids = byte_at 2; offers = byte_at 3; stats = byte_at 4 });
  root = 5;
  entry = 0;
  root_reach = refl;
  entry_reach = refl;
}

-- a sheet with these two templates; what is taken over from another sheet is where the list of templates lies
abbrev pub two_templates : Sheet → Sheet
two_templates s = record {
  actions = record { new = 0; change = 1; topcut = 2; bottomcut = 3 };
  templates = record { ptr = s.templates.ptr; len = 2; cap = s.templates.cap; alloc = s.templates.alloc; items = stat_template ∷ header_template ∷ []; ok = (refl, fewer s.templates.cap s.room); small = s.templates.small };
  first = replicate 256 0;
  lawful = refl;
  near = before;
  hints = refl;
  room = s.room;
}
  where
    fewer : (c : ℕ) → 40 ≤ c → 2 ≤ c
    fewer c le = omega arith

    before : (k : ℕ) → k < 2 → slice_index (replicate 256 0) (slice_index (1 ∷ 2 ∷ []) k % 256) ≤ k
    before zero lt = lit≤ tt
    before (suc zero) lt = lit≤ tt
    before (suc (suc k)) lt = absurd (omega arith)
