-- a row that is put is a side of a book that is put
use Rattle.std.proofs.Common.{◌≡◌, ℕ, ◌+◌, ◌*◌, ◌<◌, Bool, true, false, cond, ◌&&◌, ◌||◌, eqb, List, length, Some, None, ap, ◌∙◌, subst, arith}
use Rattle.message.specs.declared.values.Order.{Order}
use Rattle.orders.specs.declared.rows.Rows.{Rows}
use Rattle.orders.specs.Book.{book, is_side, on_side, side_of, with_side}
use Rattle.orders.specs.Rows.{Puts, PutsBook, row, book_at}

same-book : (a b c d : List Order) → a ≡ c → b ≡ d → book a b ≡ book c d
same-book a b c d e f = ap (λ z. book z b) e ∙ ap (λ z. book c z) f

module _ (s t : Rows) (k : ℕ) (i : 2 * k + 1 < s.count) where
  pub bids-put : (l : List Order) → Puts s t (2 * k) l → PutsBook s t k (book l (row s (2 * k + 1)))
  bids-put l p = record {
    here = same-book _ _ _ _ p.here (p.others (2 * k + 1) i (λ e. omega arith));
    others = λ j b ne. same-book _ _ _ _ (p.others (2 * j) (omega arith) (λ e. ne (omega arith))) (p.others (2 * j + 1) b (λ e. omega arith));
    depth = p.depth;
    count = p.count;
  }

  pub offers-put : (l : List Order) → Puts s t (2 * k + 1) l → PutsBook s t k (book (row s (2 * k)) l)
  offers-put l p = record {
    here = same-book _ _ _ _ (p.others (2 * k) (omega arith) (λ e. omega arith)) p.here;
    others = λ j b ne. same-book _ _ _ _ (p.others (2 * j) (omega arith) (λ e. omega arith)) (p.others (2 * j + 1) b (λ e. ne (omega arith)));
    depth = p.depth;
    count = p.count;
  }

  -- both sides, one after the other
  pub both-put : (m : Rows) (l n : List Order) → Puts s m (2 * k) l → Puts m t (2 * k + 1) n → PutsBook s t k (book l n)
  both-put m l n p q =
      let at : (j : ℕ) → j < s.count → j < m.count = λ j b. omega (arith, p.count) in
      record {
        here = same-book _ _ _ _ (q.others (2 * k) (at _ (omega arith)) (λ e. omega arith) ∙ p.here) q.here;
        others = λ j b ne. same-book _ _ _ _
            (q.others (2 * j) (at _ (omega arith)) (λ e. omega arith) ∙ p.others (2 * j) (omega arith) (λ e. ne (omega arith)))
            (q.others (2 * j + 1) (at _ b) (λ e. ne (omega arith)) ∙ p.others (2 * j + 1) b (λ e. omega arith));
        depth = q.depth ∙ p.depth;
        count = q.count ∙ p.count;
      }

  module _ (r : ℕ) (b : Bool) (F : ℕ → Bool) (G : List Order → List Order) where
    bids : List Order
    bids = row s (2 * k)

    offers : List Order
    offers = row s (2 * k + 1)

    edited : (x y : Bool) → Some r ≡ cond (x || y) (Some (cond x (2 * k) (2 * k + 1))) None
        → b ≡ F (length (row s r)) → Puts s t r (cond b (G (row s r)) (row s r))
        → (b ≡ ((x || y) && F (length (cond x bids offers)))) × PutsBook s t k (cond b (cond x (book (G (cond x bids offers)) offers) (book bids (G (cond x bids offers)))) (book_at s k))
    unfolding bids offers
    edited true y at fits puts =
        let e : r ≡ 2 * k = cc in
        let p = bids-put _ (subst (λ z. Puts s t z (cond b (G (row s z)) (row s z))) e puts) in
        (fits ∙ ap (λ z. F (length (row s z))) e, elim b as (λ c. PutsBook s t k (book (cond c (G (row s (2 * k))) (row s (2 * k))) (row s (2 * k + 1))) → PutsBook s t k (cond c (book (G (row s (2 * k))) (row s (2 * k + 1))) (book_at s k))) [ true ↦ λ q. q | false ↦ λ q. q ] p)
    edited false true at fits puts =
        let e : r ≡ 2 * k + 1 = cc in
        let p = offers-put _ (subst (λ z. Puts s t z (cond b (G (row s z)) (row s z))) e puts) in
        (fits ∙ ap (λ z. F (length (row s z))) e, elim b as (λ c. PutsBook s t k (book (row s (2 * k)) (cond c (G (row s (2 * k + 1))) (row s (2 * k + 1)))) → PutsBook s t k (cond c (book (row s (2 * k)) (G (row s (2 * k + 1)))) (book_at s k))) [ true ↦ λ q. q | false ↦ λ q. q ] p)
    edited false false at fits puts = absurd (let z : ◌≡◌ {A = ℕ} 0 1 = cc in omega arith)

    -- an edit of the row of a side is that edit of the side
    pub side_put : (side : ℕ) → Some r ≡ cond (is_side side) (Some (on_side side (2 * k) (2 * k + 1))) None
        → b ≡ F (length (row s r)) → Puts s t r (cond b (G (row s r)) (row s r))
        → (b ≡ (is_side side && F (length (side_of (book_at s k) side)))) × PutsBook s t k (cond b (with_side (book_at s k) side (G (side_of (book_at s k) side))) (book_at s k))
    unfolding bids offers
    side_put side at fits puts = edited (eqb side 48) (eqb side 49) at fits puts

-- a book that is copied
pub copied_book : (s m t : Rows) (j k : ℕ) → 2 * j + 1 < s.count → 2 * k + 1 < s.count
    → Puts s m (2 * k) (row s (2 * j)) → Puts m t (2 * k + 1) (row m (2 * j + 1)) → PutsBook s t k (book_at s j)
copied_book s m t j k a b p q =
    subst (λ z. PutsBook s t k (book (row s (2 * j)) z)) (p.others (2 * j + 1) a (λ e. omega arith)) (both-put s t k b m _ _ p q)
