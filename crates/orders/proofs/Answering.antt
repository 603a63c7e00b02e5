-- what the store's calls answer and leave, from what they did to the rows
use Rattle.std.proofs.Common.{◌≡◌, ℕ, ◌+◌, ◌-◌, ◌<◌, Bool, true, false, cond, eqb, ltb, [], ◌∷◌, ◌++◌, length, set, sym, ap, ◌∙◌, arith}
use Rattle.std.proofs.lemmas.List.{set-get_or, length_push}
use Rattle.std.proofs.lemmas.Bool.{eq-eqb, ne_eqb, and_parts, ltb-true}
use Rattle.message.specs.declared.values.EntryFields.{EntryFields}
use Rattle.message.specs.Meaning.{Body, entry}
use Rattle.store.specs.Kind.{Model}
use Rattle.store.specs.Calls.{fits_at, value_at, with_slot, with_staged, with_piece}
use Rattle.orders.specs.declared.due.Due.{Due}
use Rattle.orders.specs.declared.rows.Rows.{Rows}
use Rattle.orders.specs.declared.order_store.OrderStore.{OrderStore}
use Rattle.orders.specs.Book.{Book, book, empty_book, is_side, side_of}
use Rattle.orders.specs.Kind.{Setup, orders, fits_book}
use Rattle.orders.specs.Staged.{due_of, fits_entry}
use Rattle.orders.specs.Rows.{Puts, PutsBook, row, book_at}
use Rattle.orders.specs.Model.{setup_of, model_of}
use Rattle.orders.proofs.BothSides.{bids-put, offers-put}
use Rattle.orders.proofs.Slots.{books, model, books-length, book-value, slot_put, staged-put, Sound, sound-staged}

module _ (s : OrderStore) where
  pub in_slots : (i : ℕ) → i < length (model_of s).slots → i < s.slots
  in_slots i h = omega (arith, books-length s.rows s.slots)

  pub same-setup : (n : ℕ) → n ≡ s.rows.depth → ◌≡◌ {A = Setup} (record { actions = s.actions; depth = n }) (setup_of s)
  same-setup n e = ap (λ d. record { actions = s.actions; depth = d }) e

  pub fits_slot : (i : ℕ) (b : Body) → i < s.slots → fits_book (setup_of s) (book_at s.rows (i + 1)) b ≡ fits_at (orders (setup_of s)) (model_of s) i b
  fits_slot i b h = ap (λ v. fits_book (setup_of s) v b) (sym (book-value s.rows s.slots i empty_book h))

  -- what a message that may not fit leaves
  pub put_or_not : (t : Rows) (i : ℕ) (b : Bool) (f : Book → Book) → i < s.slots → PutsBook s.rows t (i + 1) (cond b (f (book_at s.rows (i + 1))) (book_at s.rows (i + 1)))
      → model t s.slots s.owed ≡ cond b (with_slot (orders (setup_of s)) (model_of s) i (f (value_at (orders (setup_of s)) (model_of s) i))) (model_of s)
  put_or_not t i true f h p =
      slot_put (setup_of s) s.rows t s.slots s.count i _ s.owed h p
      ∙ ap (λ v. with_slot (orders (setup_of s)) (model_of s) i (f v)) (sym (book-value s.rows s.slots i empty_book h))
  put_or_not t i false f h p =
      slot_put (setup_of s) s.rows t s.slots s.count i _ s.owed h p
      ∙ (ap (λ v. record { slots = set (books s.rows s.slots) i v; staged = book_at s.rows 0; owed = s.owed }) (sym (book-value s.rows s.slots i empty_book h))
      ∙ ap (λ l. record { slots = l; staged = book_at s.rows 0; owed = s.owed }) (set-get_or (books s.rows s.slots) i empty_book))

  -- what an entry leaves, by whether its side is the bids
  entered : EntryFields → Bool → Model Book Due
  entered e b = with_staged (orders (setup_of s)) (model_of s)
      (cond b (book (cond b (row s.rows 0) (row s.rows 1) ++ (e.order ∷ [])) (row s.rows 1)) (book (row s.rows 0) (cond b (row s.rows 0) (row s.rows 1) ++ (e.order ∷ []))))
      (cond b (due_of (s.owed.bids - 1) s.owed.offers) (due_of s.owed.bids (s.owed.offers - 1)))

  module _ (t : Rows) (e : EntryFields) (f : true ≡ fits_entry (book_at s.rows 0) s.owed e) where
    owes : (b : Bool) → eqb e.side 48 ≡ b → 0 < cond b s.owed.bids s.owed.offers
    owes b q = ltb-true _ _ (ap (λ z. ltb 0 (cond z s.owed.bids s.owed.offers)) (sym q) ∙ (and_parts (eqb e.position (length (side_of (book_at s.rows 0) e.side) + 1)) _ (and_parts (is_side e.side) _ (sym f)).1).1)

    pub taken_bid : e.side ≡ 48 → Puts s.rows t 0 (row s.rows 0 ++ (e.order ∷ []))
        → (true ≡ fits_entry (book_at s.rows 0) s.owed e) × (model t s.slots (due_of (s.owed.bids - 1) s.owed.offers) ≡ with_piece (orders (setup_of s)) (model_of s) (entry e)) × Sound s t (due_of (s.owed.bids - 1) s.owed.offers)
    unfolding entered
    taken_bid q p =
        let yes = eq-eqb e.side 48 q in
        let i : 1 < s.rows.count = omega (arith, s.count) in
        let u = bids-put s.rows t 0 i _ p in (
          f,
          staged-put (setup_of s) s.rows t s.slots s.count _ s.owed _ u ∙ ap (entered e) (sym yes),
          sound-staged s t _ _ u (omega (arith, s.bids, length_push (row s.rows 0) e.order, owes true yes)) s.offers,
        )

    pub taken_offer : (e.side ≡ 48 → ⊥) → Puts s.rows t 1 (row s.rows 1 ++ (e.order ∷ []))
        → (true ≡ fits_entry (book_at s.rows 0) s.owed e) × (model t s.slots (due_of s.owed.bids (s.owed.offers - 1)) ≡ with_piece (orders (setup_of s)) (model_of s) (entry e)) × Sound s t (due_of s.owed.bids (s.owed.offers - 1))
    unfolding entered
    taken_offer q p =
        let no = ne_eqb e.side 48 q in
        let i : 1 < s.rows.count = omega (arith, s.count) in
        let u = offers-put s.rows t 0 i _ p in (
          f,
          staged-put (setup_of s) s.rows t s.slots s.count _ s.owed _ u ∙ ap (entered e) (sym no),
          sound-staged s t _ _ u s.bids (omega (arith, s.offers, length_push (row s.rows 1) e.order, owes false no)),
        )
