-- A packet's messages, one by one.
use Rattle.std.proofs.Common.{◌≡◌, ℕ, List, [], ◌∷◌}
use Rattle.message.specs.Meaning.{Msg}
use Rattle.store.specs.Kind.{Kind}
use Rattle.recovery.specs.Books.{Book}
use Rattle.settling.specs.Passes.{feed, feeds}

module _ {V O : Type 0} (n : ℕ) (ms : List Msg) where
  pub feeds_next : (m : Msg) (rest : List Msg) → ms ≡ m ∷ rest → (k : Kind V O) (i : ℕ) (x : Book V) → feeds n ms k i x ≡ feeds n rest k i (feed n m k i x)
  unfolding feeds
  feeds_next m rest e k i x = rw e

  pub feeds-end : ms ≡ [] → (k : Kind V O) (i : ℕ) (x : Book V) → feeds n ms k i x ≡ x
  unfolding feeds
  feeds-end e k i x = rw e
