use Rattle.panel.proofs.Slots.{none-shown}
use Rattle.panel.proofs.panel_store.PanelStore.number.Goals as goal

pub returns-then-slot-ge64 : goal.returns-then-slot-ge64
returns-then-slot-ge64 c = none-shown c.args.self.now c.args.slot c.args.template c.if-slot-ge64.true
