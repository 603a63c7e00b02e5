-- The words of the refusals and of the layers.
use Rattle.std.specs.Prelude.{ℕ, cond, List, codes, ◌==◌}
use Rattle.refusal.specs.declared.Layer.{Layer}
use Rattle.refusal.specs.declared.Layer.TheVariants.{Frame, Stream, Store, Sheet}

abbrev pub layer_word : Layer → List ℕ
layer_word Frame = codes "frame"
layer_word Stream = codes "stream"
layer_word Store = codes "store"
layer_word Sheet = codes "sheet"

abbrev pub named : ℕ → ℕ → List ℕ → List ℕ → List ℕ
named n k word others = cond (n == k) word others

abbrev pub frame_word : ℕ → List ℕ → List ℕ
frame_word n others =
    named n 1 (codes "size") (named n 2 (codes "empty") (named n 3 (codes "torn") (named n 4 (codes "length")
    (named n 5 (codes "encoding") (named n 6 (codes "schema") (named n 7 (codes "block") (named n 8 (codes "group") others)))))))

abbrev pub stream_word : ℕ → List ℕ → List ℕ
stream_word n others =
    named n 9 (codes "channel") (named n 10 (codes "version") (named n 11 (codes "number") (named n 12 (codes "late")
    (named n 13 (codes "join") (named n 14 (codes "shelf") (named n 15 (codes "instrument") (named n 16 (codes "opening") others)))))))

abbrev pub word_of : ℕ → List ℕ
word_of n =
    frame_word n (stream_word n (named n 17 (codes "sheet") (named n 18 (codes "slot") (named n 19 (codes "unfit") (named n 20 (codes "owed") (codes "unknown"))))))
