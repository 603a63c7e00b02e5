use Rattle.std.proofs.Common.{take, sym, subst}
use native.Mathlib.Nat.{sub-zero}
use Rattle.sheet_text.specs.Kept.{Kept}
use Rattle.sheet_text.proofs.filling.load.Goals as goal

pub build-requires : goal.build-requires
build-requires c =
    record {
      kept = subst (λ k. Kept (take k c.read_fields.new.lines)) (sym (sub-zero c.in_ok-n.n)) c.in_ok-n.ensures.found.2;
      different = c.in_ok-actions.ensures.different;
    }
