use Rattle.panel.proofs.Slots.{panel_set}
use Rattle.panel.proofs.calls.PanelStoreStore.adopt_at.Goals as goal

pub returns-clause-after : goal.returns-clause-after
returns-clause-after c = let s = c.args.self.now in panel_set s c.args.slot s.staged
