-- The instruments of a watch list.
use Rattle.std.specs.Prelude.{ℕ, List, take}
use Rattle.settling.specs.declared.watch.Watch.{Watch}

abbrev pub watch_of : Watch → List ℕ
watch_of w = take w.count w.ids
