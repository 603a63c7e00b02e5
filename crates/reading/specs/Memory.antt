-- The bytes of a file that a reader has in memory.
use Rattle.std.specs.Prelude.{ℕ, List, take, vec_items}
use Rattle.reading.specs.declared.reader.Reader.{Reader}

abbrev pub held : Reader → List ℕ
held r = take r.held (vec_items r.buffer)
