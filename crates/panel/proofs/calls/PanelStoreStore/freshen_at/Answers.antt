use Rattle.std.proofs.Common.{ap, ◌∙◌}
use Rattle.store.specs.Calls.{with_slot}
use Rattle.panel.specs.Kind.{panel}
use Rattle.panel.specs.Model.{setup_of, model_of}
use Rattle.panel.proofs.Slots.{panel_set, none_noted}
use Rattle.panel.proofs.calls.PanelStoreStore.freshen_at.Goals as goal

pub returns-clause-after : goal.returns-clause-after
returns-clause-after c =
    let s = c.args.self.now in
    panel_set s c.args.slot c.none.result ∙ ap (with_slot (panel (setup_of s)) (model_of s) c.args.slot) (none_noted s.listed c.none.result c.none.ensures)
