-- What one message and one packet do to the book of one instrument, where it stands at n.
use Rattle.std.specs.Prelude.{ℕ, cond, ◌&&◌, List, [], ◌∷◌}
use Rattle.message.specs.Meaning.{Msg, body, security}
use Rattle.store.specs.Kind.{Kind}
use Rattle.recovery.specs.Shelf.{Found, upon}
use Rattle.recovery.specs.Reading.{is_of, is_change}
use Rattle.recovery.specs.Books.{Book, book, lost}
use Rattle.settling.specs.declared.marks.Event.{Event}
use Rattle.settling.specs.declared.marks.Event.TheVariants.{Taken, Spoilt}
use Rattle.settling.specs.Marks.{stands, comes, falls}

module _ {V O : Type 0} where
  -- an event: a book that gets stale is fresh
  abbrev pub noted : Event → Kind V O → ℕ → Book V → Book V
  noted e K i x = book (comes e x.mark) (cond (falls x.mark (comes e x.mark)) K.fresh x.value)

  -- a message for the instrument itself
  abbrev pub heeded : ℕ → Msg → Kind V O → Book V → Book V
  heeded n m K x = cond (is_change m.layout && stands n x.mark) (cond (K.fits x.value (body m)) (book x.mark (K.after x.value (body m))) (lost K)) x

  abbrev pub feed : ℕ → Msg → Kind V O → ℕ → Book V → Book V
  feed n m K i x = cond (is_of i (security m)) (heeded n m K x) x

  unfoldable pub feeds : ℕ → List Msg → Kind V O → ℕ → Book V → Book V
  feeds n [] K i x = x
  feeds n (m ∷ ms) K i x = feeds n ms K i (feed n m K i x)

  -- the packet after n, as it is found
  abbrev pub pass : ℕ → Found → Kind V O → ℕ → Book V → Book V
  pass n found K i x = upon found x (noted (Spoilt n) K i x) (λ ms. noted (Taken n) K i (feeds n ms K i x))
