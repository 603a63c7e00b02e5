-- Books that settle, as one step of the state.
use Rattle.std.proofs.Common.{◌≡◌, ℕ, ◌<◌, ◌≤◌, cond, ltb, List, length, get_or, sym, ap₂, ⊎_elim}
use Rattle.std.proofs.lemmas.Bool.{lt-ltb, le-ltb, cases_lt}
use Rattle.store.specs.Kind.{Kind, Model}
use Rattle.recovery.specs.declared.marks.Mark.{Mark}
use Rattle.recovery.specs.Books.{settle}
use Rattle.recovery.specs.State.{Opening, Plain, state_of}
use Rattle.recovery.specs.Incremental.{settled}
use Rattle.settling.specs.Each.{Each, book_at, kind_in}

module _ {V O : Type 0} (K : Kind V O) (o : Opening) (p : Plain) (ms ms' : List Mark) (s s' : Model V O) where
  pub settles : Each K o.watch (λ k i x. settle k p.heard p.shelf i x) ms s ms' s' → state_of K p ms' s' ≡ settled K o (state_of K p ms s)
  settles e = ap₂ (λ b r. record { plain = p; books = b; rest = r }) (λ j q. point q j) (sym e.rest)
    where
      point : (q : ℕ) → book_at K ms' s' q ≡ cond (ltb q (length o.watch)) (settle (kind_in K s q) p.heard p.shelf (get_or o.watch q 0) (book_at K ms s q)) (book_at K ms s q)
      point q = ⊎_elim
          (λ (l : q < length o.watch). rw (lt-ltb q (length o.watch) l) (sym (e.books q l)))
          (λ (l : length o.watch ≤ q). rw (le-ltb q (length o.watch) l) (sym (e.others q l)))
          (cases_lt q (length o.watch))
