-- When a sheet has room for a template, in terms of the templates that it lists.
use Rattle.std.specs.Prelude.{ℕ, ◌+◌, Bool, cond, ◌&&◌, List, length, nat_le}
use Rattle.layout.specs.declared.kinds.Layout.{Layout}
use Rattle.layout.specs.declared.template.Template.{Template}
use Rattle.layout.specs.Lawful.{lawful_layout, is_stat, stat_count, is_none, find}

-- at most 40 templates with it, at most 16 of them `stat`, its layout is lawful, and its number is new
abbrev pub takes : List Template → ℕ × Layout → Bool
takes ts t = (nat_le (length ts + 1) 40 && nat_le (stat_count ts + cond (is_stat t.1) 1 0) 16) && (lawful_layout t.1 && is_none (find ts t.0))
