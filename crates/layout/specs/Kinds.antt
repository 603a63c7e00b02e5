-- What a template's messages are.
use Rattle.layout.specs.declared.kinds.Kind.{Kind}
use Rattle.layout.specs.declared.kinds.Kind.TheVariants as kinds
use Rattle.layout.specs.declared.kinds.Layout.{Layout}
use Rattle.layout.specs.declared.kinds.Layout.TheVariants.{Order, Delete, Mass, Empty, Stat, Header, Entries}

abbrev pub kind_of : Layout → Kind
kind_of (Order l) = kinds.Order
kind_of (Delete l) = kinds.Delete
kind_of (Mass l) = kinds.Mass
kind_of (Empty l) = kinds.Empty
kind_of (Stat l) = kinds.Stat
kind_of (Header l) = kinds.Header
kind_of (Entries l) = kinds.Entries
