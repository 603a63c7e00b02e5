-- The reason, the layer and the place of each refusal of a store.
use Rattle.std.specs.Prelude.{ℕ}
use Rattle.refusal.specs.declared.Layer.TheVariants.{Store}
use Rattle.refusal.specs.declared.Reason.{Reason}
use Rattle.refusal.specs.declared.Reason.TheVariants as reasons
use Rattle.refusal.specs.declared.Refusal.{Refusal}
use Rattle.store.specs.declared.fault.StoreFault.{StoreFault}
use Rattle.store.specs.declared.fault.StoreFault.TheVariants.{Opening, Slot, Unfit, Owed}

abbrev pub by_store : Reason → ℕ → Refusal
by_store r place = record { reason = r; layer = Store; place = place }

abbrev pub refusal_of : StoreFault → Refusal
refusal_of Opening = by_store reasons.Opening 4
refusal_of (Slot i) = by_store reasons.Slot i
refusal_of Unfit = by_store reasons.Unfit 0
refusal_of Owed = by_store reasons.Owed 0
