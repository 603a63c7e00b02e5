-- What the messages and pieces that the code hands out stand for.
use Rattle.std.specs.Prelude.{Some, None}
use Rattle.layout.specs.declared.kinds.Layout.TheVariants as layouts
use Rattle.message.specs.declared.message.Message.{Message}
use Rattle.message.specs.declared.message.Message.TheVariants.{Order, Delete, Mass, Empty, Stat, Header, Entries, Other}
use Rattle.message.specs.declared.message.Piece.{Piece}
use Rattle.message.specs.declared.message.Piece.TheVariants as pieces
use Rattle.message.specs.Meaning.{Msg, Body, Part, body, entry, number, entry_fields, stat_fields, or_torn}

abbrev pub view : Message → Msg
view (Order l part) = record { layout = Some (layouts.Order l.now); bytes = part.now }
view (Delete l part) = record { layout = Some (layouts.Delete l.now); bytes = part.now }
view (Mass l part) = record { layout = Some (layouts.Mass l.now); bytes = part.now }
view (Empty l part) = record { layout = Some (layouts.Empty l.now); bytes = part.now }
view (Stat l part) = record { layout = Some (layouts.Stat l.now); bytes = part.now }
view (Header l part) = record { layout = Some (layouts.Header l.now); bytes = part.now }
view (Entries l part) = record { layout = Some (layouts.Entries l.now); bytes = part.now }
view (Other part) = record { layout = None; bytes = part.now }

-- what a message means to a store
abbrev pub meant : Message → Body
meant m = body (view m)

-- what a piece means to a store
abbrev pub piece_meant : Piece → Part
piece_meant (pieces.Entry l part) = or_torn entry (entry_fields l.now part.now)
piece_meant (pieces.Stat l part) = or_torn number (stat_fields l.now part.now)
