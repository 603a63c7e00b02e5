-- What a store of panels holds.
use Rattle.std.specs.Prelude.{ℕ, List, map, take}
use Rattle.store.specs.Kind.{Model}
use Rattle.panel.specs.declared.listed.Listed.{Listed}
use Rattle.panel.specs.declared.numbers.Numbers.{Numbers}
use Rattle.panel.specs.declared.panel_store.PanelStore.{PanelStore}
use Rattle.panel.specs.Numbers.{Panel}

-- the templates in use
abbrev pub templates_of : Listed → List ℕ
templates_of l = take l.count l.places

-- a number for each of them
abbrev pub panel_of : Listed → Numbers → Panel
panel_of l n = take l.count n.places

-- the templates that a store keeps numbers of
abbrev pub setup_of : PanelStore → List ℕ
setup_of s = templates_of s.listed

abbrev pub model_of : PanelStore → Model Panel ℕ
model_of s = record { slots = map (panel_of s.listed) s.panels; staged = panel_of s.listed s.staged; owed = s.owed }
