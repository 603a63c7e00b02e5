-- A loop over the slots, up to the slot n.
use Rattle.std.proofs.Common.{◌≡◌, ℕ, ◌+◌, ◌<◌, ◌≤◌, List, length, sym, refl, ap, ◌∙◌, subst, ⊎_elim, arith}
use Rattle.std.proofs.lemmas.Bool.{eq-eqb, ne_eqb, cases_eq}
use Rattle.store.specs.Kind.{Kind, Model}
use Rattle.recovery.specs.declared.marks.Mark.{Mark}
use Rattle.recovery.specs.Books.{kind_at}
use Rattle.recovery.specs.State.{rest_of}
use Rattle.settling.specs.declared.marks.Event.{Event}
use Rattle.settling.specs.Passes.{noted}
use Rattle.settling.specs.Each.{Each, Puts, book_at, kind_in}

module _ {V O : Type 0} (K : Kind V O) where
  pub record Upto (n : ℕ) (e : Event) (ms : List Mark) (s : Model V O) (ms' : List Mark) (s' : Model V O) : Type 0 where
    pub below : (q : ℕ) → q < n → book_at K ms' s' q ≡ noted e (kind_in K s q) 0 (book_at K ms s q)
    pub above : (q : ℕ) → n ≤ q → book_at K ms' s' q ≡ book_at K ms s q
    pub rest : rest_of K s ≡ rest_of K s'

  pub upto-none : (e : Event) (ms : List Mark) (s : Model V O) → Upto 0 e ms s ms s
  upto-none e ms s = record { below = λ q lt. absurd (omega arith); above = λ q _. refl; rest = refl }

  pub upto-more : (K' : Kind V O) (n : ℕ) (e : Event) (ms ms' ms'' : List Mark) (s s' s'' : Model V O) → K' ≡ K → Upto n e ms s ms' s'
      → Puts K' n (noted e (kind_in K' s' n) 0 (book_at K' ms' s' n)) ms' s' ms'' s'' → Upto (n + 1) e ms s ms'' s''
  upto-more K' n e ms ms' ms'' s s' s'' same u wrote =
      let put = subst (λ z. Puts z n (noted e (kind_in z s' n) 0 (book_at z ms' s' n)) ms' s' ms'' s'') same wrote in record {
        below = λ q lt. put.books q ∙ ⊎_elim
            (λ (d : q ≡ n). rw (eq-eqb q n d) (ap (λ r. noted e (kind_at K r.room n) 0 (book_at K ms' s' n)) (sym u.rest) ∙ ap (noted e (kind_in K s n) 0) (u.above n (omega arith)) ∙ ap (λ k. noted e (kind_in K s k) 0 (book_at K ms s k)) (sym d)))
            (λ (d : q ≡ n → ⊥). rw (ne_eqb q n d) (u.below q (omega arith)))
            (cases_eq q n);
        above = λ q le. put.books q ∙ rw (ne_eqb q n (λ d. omega arith)) (u.above q (omega arith));
        rest = u.rest ∙ put.rest;
      }

  pub upto_all : (w : List ℕ) (n : ℕ) (e : Event) (ms ms' : List Mark) (s s' : Model V O) → n ≡ length w → Upto n e ms s ms' s' → Each K w (noted e) ms s ms' s'
  upto_all w n e ms ms' s s' is u = record { books = λ q lt. sym (u.below q (omega arith)); others = λ q le. sym (u.above q (omega arith)); rest = u.rest }
