-- What a store of panels shows of a slot.
use Rattle.std.specs.Prelude.{ℕ, ℤ, Option}
use Rattle.store.specs.Calls.{value_at}
use Rattle.panel.specs.declared.panel_store.PanelStore.{PanelStore}
use Rattle.panel.specs.Numbers.{number_of}
use Rattle.panel.specs.Kind.{panel}
use Rattle.panel.specs.Model.{setup_of, model_of}

-- the latest number of a template; none where there is no such slot
abbrev pub shown : PanelStore → ℕ → ℕ → Option ℤ
shown s slot template = number_of (setup_of s) (value_at (panel (setup_of s)) (model_of s) slot) template
