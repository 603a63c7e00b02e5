-- Steps joined, instrument by instrument.
use Rattle.std.proofs.Common.{◌≡◌, ℕ, ◌<◌, true, false, ltb, List, length, get_or, Some, None, Option, sym, refl, ap, ◌∙◌, subst, ⊎_elim, arith}
use Rattle.std.proofs.lemmas.Bool.{eq-eqb, ne_eqb, cases_eq, ltb-true, ltb-false}
use Rattle.message.specs.Meaning.{Msg, security}
use Rattle.store.specs.Kind.{Kind, Model}
use Rattle.recovery.specs.declared.marks.Mark.{Mark}
use Rattle.recovery.specs.Books.{Book, kind_at}
use Rattle.recovery.specs.State.{slot_in, distinct}
use Rattle.settling.specs.Slots.{slot_found, slot_named}
use Rattle.settling.specs.Passes.{feed, heeded}
use Rattle.settling.specs.Each.{Meets, Each, Puts, book_at, kind_in}
use Rattle.settling.proofs.Finding.{slot_own, slot_is, by_test}

apart : (w : List ℕ) (p q : ℕ) → distinct w ≡ true → p < length w → q < length w → get_or w p 0 ≡ get_or w q 0 → p ≡ q
apart w p q d l k e = sym (slot_own w p d l) ∙ ap (slot_in w) e ∙ slot_own w q d k

some_slot : (w : List ℕ) (i p : ℕ) → Some p ≡ slot_found w i → (p < length w) × (get_or w p 0 ≡ i)
some_slot w i p e = by_test (ltb (slot_in w i) (length w))
    (λ t. let f : Some p ≡ Some (slot_in w i) = e ∙ rw t in let g : p ≡ slot_in w i = cc in
    let l = ltb-true _ _ t in (omega arith, ap (λ k. get_or w k 0) g ∙ slot_is w i l))
    (λ t. let f : Some p ≡ None = e ∙ rw t in let z : ◌≡◌ {A = ℕ} 0 1 = cc in absurd (omega arith))

none_slot : (w : List ℕ) (i : ℕ) → None ≡ slot_found w i → ltb (slot_in w i) (length w) ≡ false
none_slot w i e = by_test (ltb (slot_in w i) (length w))
    (λ t. let f : None ≡ Some (slot_in w i) = e ∙ rw t in let z : ◌≡◌ {A = ℕ} 0 1 = cc in absurd (omega arith))
    (λ t. t)

module _ {V O : Type 0} (K : Kind V O) (w : List ℕ) where
  pub start : (F : Kind V O → ℕ → Book V → Book V) (ms : List Mark) (s : Model V O) → Meets K w F F ms s ms s
  start F ms s = record { books = λ q _. refl; others = λ q _. refl; rest = refl }

  -- what is left to do, G, after a step S leaves G'
  pub turn : {F G S G' : Kind V O → ℕ → Book V → Book V} {ms ms' ms'' : List Mark} {s s' s'' : Model V O} {K' : Kind V O} → K' ≡ K
      → Meets K w F G ms s ms' s' → Each K' w S ms' s' ms'' s'' → ((k : Kind V O) (i : ℕ) (x : Book V) → G k i x ≡ G' k i (S k i x)) → Meets K w F G' ms s ms'' s''
  turn {S = S} {G' = G'} {ms' = ms'} {ms'' = ms''} {s = s} {s' = s'} {s'' = s''} e a c step =
      let b = subst (λ z. Each z w S ms' s' ms'' s'') e c in record {
        books = λ q lt. a.books q lt ∙ step (kind_in K s q) (get_or w q 0) (book_at K ms' s' q)
            ∙ ap (G' (kind_in K s q) (get_or w q 0)) (ap (λ r. S (kind_at K r.room q) (get_or w q 0) (book_at K ms' s' q)) a.rest ∙ b.books q lt);
        others = λ q le. a.others q le ∙ b.others q le;
        rest = a.rest ∙ b.rest;
      }

  -- what is left to do is G' as well as G
  pub like : {F G G' : Kind V O → ℕ → Book V → Book V} {ms ms' : List Mark} {s s' : Model V O}
      → Meets K w F G ms s ms' s' → ((k : Kind V O) (i : ℕ) (x : Book V) → G k i x ≡ G' k i x) → Meets K w F G' ms s ms' s'
  like {ms' = ms'} {s = s} {s' = s'} a step = record {
    books = λ q lt. a.books q lt ∙ step (kind_in K s q) (get_or w q 0) (book_at K ms' s' q);
    others = a.others;
    rest = a.rest;
  }

  module _ (ms : List Mark) (s : Model V O) (n : ℕ) (m : Msg) where
    -- a message that tells no instrument
    pub hand_nobody : None ≡ security m → Each K w (feed n m) ms s ms s
    hand_nobody e = record { books = λ q lt. rw (sym e); others = λ q _. refl; rest = refl }

    -- a message for an instrument that is not watched
    pub hand_none : (i : ℕ) → distinct w ≡ true → Some i ≡ security m → None ≡ slot_found w i → Each K w (feed n m) ms s ms s
    hand_none i d e f = record {
      books = λ q lt. rw (sym e, ne_eqb i (get_or w q 0) (λ g. let o = slot_own w q d lt in let h = ltb-false _ _ (none_slot w i f) in let j : slot_in w i ≡ q = ap (slot_in w) g ∙ o in omega arith));
      others = λ q _. refl;
      rest = refl;
    }

    pub hand_one : (i p : ℕ) (ms' : List Mark) (s' : Model V O) → distinct w ≡ true → Some i ≡ security m → Some p ≡ slot_found w i → Puts K p (heeded n m (kind_in K s p) (book_at K ms s p)) ms s ms' s' → Each K w (feed n m) ms s ms' s'
    hand_one i p ms' s' d e f put =
        let h = some_slot w i p f in let l = h.0 in let is = h.1 in record {
          books = λ q lt. ⊎_elim
              (λ (g : q ≡ p). rw (sym e, eq-eqb i (get_or w q 0) (sym is ∙ ap (λ k. get_or w k 0) (sym g))) (ap (λ k. heeded n m (kind_in K s k) (book_at K ms s k)) g ∙ sym (put.books q ∙ rw (eq-eqb q p g))))
              (λ (g : q ≡ p → ⊥). rw (sym e, ne_eqb i (get_or w q 0) (λ z. g (apart w q p d lt l (sym z ∙ sym is)))) (sym (put.books q ∙ rw (ne_eqb q p g))))
              (cases_eq q p);
          others = λ q le. sym (put.books q ∙ rw (ne_eqb q p (λ g. omega arith)));
          rest = put.rest;
        }

    -- by the slot that is found for whatever the message names
    pub hand_elsewhere : distinct w ≡ true → None ≡ slot_named w (security m) → Each K w (feed n m) ms s ms s
    hand_elsewhere d = go (security m) refl
      where
        go : (x : Option ℕ) → x ≡ security m → None ≡ slot_named w x → Each K w (feed n m) ms s ms s
        go None e f = hand_nobody e
        go (Some i) e f = hand_none i d e f

    pub hand_named : (p : ℕ) (ms' : List Mark) (s' : Model V O) → distinct w ≡ true → Some p ≡ slot_named w (security m) → Puts K p (heeded n m (kind_in K s p) (book_at K ms s p)) ms s ms' s' → Each K w (feed n m) ms s ms' s'
    hand_named p ms' s' d f put = go (security m) refl f
      where
        go : (x : Option ℕ) → x ≡ security m → Some p ≡ slot_named w x → Each K w (feed n m) ms s ms' s'
        go None e g = let z : ◌≡◌ {A = ℕ} 0 1 = cc in absurd (omega arith)
        go (Some i) e g = hand_one i p ms' s' d e g put
