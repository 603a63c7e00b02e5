-- A sheet that says the same as another.
use Rattle.std.specs.Prelude.{◌≡◌, vec_items}
use Rattle.layout.specs.declared.sheet.Sheet.{Sheet}

pub record SaysTheSame (s t : Sheet) : Type 0 where
  pub actions : t.actions ≡ s.actions
  pub templates : vec_items t.templates ≡ vec_items s.templates
  pub first : t.first ≡ s.first
