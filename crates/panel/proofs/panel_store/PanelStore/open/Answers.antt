use Rattle.std.proofs.Common.{refl}
use Rattle.panel.proofs.Slots.{none_noted, all_fresh}
use Rattle.panel.proofs.panel_store.PanelStore.open.Goals as goal

pub returns-clause-model : goal.returns-clause-model
returns-clause-model c =
    let l = c.listed.result in
    let n = c.none-none.result in
    record { slots = all_fresh l n c.none-none.ensures; staged = none_noted l n c.none-none.ensures; owed = refl }
