use Rattle.std.proofs.Common.{ap}
use Rattle.panel.specs.Model.{model_of}
use Rattle.panel.proofs.Slots.{model, none_noted}
use Rattle.panel.proofs.calls.PanelStoreStore.begin.Goals as goal

pub returns-clause-after : goal.returns-clause-after
returns-clause-after c =
    let s = c.args.self.now in
    ap (λ v. model (model_of s).slots v c.args.h.now.stats) (none_noted s.listed c.none-self.result c.none-self.ensures)
