-- The refusal of a sheet's text by its reason, layer and place.
use Rattle.refusal.specs.declared.Reason.TheVariants as reasons
use Rattle.refusal.specs.declared.Refusal.{Refusal}
use Rattle.refusal.specs.declared.Layer.TheVariants.{Sheet}
use Rattle.sheet_text.specs.declared.types.SheetFault.{SheetFault}

abbrev pub sheet_refusal : SheetFault → Refusal
sheet_refusal f = record { reason = reasons.Sheet; layer = Sheet; place = f.line }
