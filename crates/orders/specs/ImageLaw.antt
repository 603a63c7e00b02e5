-- Images of a book fill it, and pieces of no concern change nothing.
use Rattle.std.specs.Prelude.{◌≡◌, ℕ, suc, ◌+◌, ◌-◌, true, false, ◌&&◌, List, [], ◌∷◌, ◌++◌, length, ◌==◌, nat_eq}
use Rattle.std.proofs.Math.Path.{refl, subst}
use Rattle.std.proofs.Common.{sym, ap, arith}
use Rattle.std.proofs.Math.Logic.{inl, inr}
use mathlib.Core.List.{append_assoc, append-nil}
use Rattle.std.proofs.lemmas.List.{length_push, nil_from_length}
use Rattle.std.proofs.lemmas.Bool.{eqb-true, le-leb, and_parts, and_from, eq-eqb, true≢false}
use Rattle.message.specs.declared.values.Order.{Order}
use Rattle.message.specs.Meaning.{Part, entry, number, torn}
use Rattle.store.specs.Law.{Fills, ImageLaw, Sound}
use Rattle.orders.specs.declared.due.Due.{Due}
use Rattle.orders.specs.Book.{Book, book}
use Rattle.orders.specs.Staged.{due_of, concerns_book, takes_part, put_part, less_part}
use Rattle.orders.specs.Kind.{Setup, orders}
use Rattle.orders.specs.Image.{entered, numbered, Sided, BookImage}

none_numbered : (p : ℕ) (xs : List Order) → [] ≡ numbered p xs → xs ≡ []
unfolding numbered
none_numbered p [] e = refl
none_numbered p (x ∷ xs) e = let z : ◌≡◌ {A = ℕ} 0 1 = cc in absurd (omega arith)

-- what stands first in a numbered list
record First (p : ℕ) (xs : List Order) (q : ℕ) (x : Order) (rest : List (ℕ × Order)) : Type 0 where
  others : List Order
  is : xs ≡ x ∷ others
  place : q ≡ p
  behind : rest ≡ numbered (suc p) others

first : (p : ℕ) (xs : List Order) (q : ℕ) (x : Order) (rest : List (ℕ × Order)) → (q, x) ∷ rest ≡ numbered p xs → First p xs q x rest
unfolding numbered
first p [] q x rest e = let z : ◌≡◌ {A = ℕ} 0 1 = cc in absurd (omega arith)
first p (y ∷ ys) q x rest e =
    let u : ◌≡◌ {A = ℕ × Order} (q, x) (p, y) = cc in
    record { others = ys; is = ap (λ z. z ∷ ys) (sym (ap (λ t. t.1) u)); place = ap (λ t. t.0) u; behind = cc }

one_less : (n : ℕ) → suc n - 1 ≡ n
one_less n = omega arith

grown : (xs : List Order) (x : Order) → length (xs ++ (x ∷ [])) ≡ suc (length xs)
grown xs x = omega (arith, length_push xs x)

module _ (o : Setup) where
  -- nothing owed: nothing is to come
  done : (xs ys bids offers : List Order) → (length bids == 0 && length offers == 0) ≡ true → book xs ys ≡ book (xs ++ bids) (ys ++ offers)
  done xs ys bids offers w =
      let p = and_parts _ _ w in
      let b = nil_from_length bids (eqb-true _ _ p.0) in
      let c = nil_from_length offers (eqb-true _ _ p.1) in
      rw (b, c, append-nil xs, append-nil ys)

  one : ℕ → ℕ → Order → Part
  one s p x = entry (record { side = s; position = p; order = x })

  -- the pieces add to any two sides what is still to come of each
  Adds : List Part → Type 0
  Adds ps = (xs ys bids offers : List Order) → entered 48 ps ≡ numbered (suc (length xs)) bids → entered 49 ps ≡ numbered (suc (length ys)) offers
      → Fills (orders o) (book xs ys) (due_of (length bids) (length offers)) ps (book (xs ++ bids) (ys ++ offers))

  a_bid : (p : ℕ) (x : Order) (ps : List Part) → Adds ps → Adds (one 48 p x ∷ ps)
  unfolding Adds one entered
  a_bid p x ps rest xs ys bids offers eb eo =
      let f = first _ bids p x _ eb in
      let t : nat_eq p (length xs + 1) ≡ true = eq-eqb p _ (omega (arith, f.place)) in
      rw f.is (
        done xs ys (x ∷ f.others) offers,
        and_from _ _ t (le-leb 1 _ (omega arith)),
        rw (one_less (length f.others), ← (append_assoc xs (x ∷ []) f.others)) (rest (xs ++ (x ∷ [])) ys f.others offers (rw (grown xs x) f.behind) eo),
      )

  an_offer : (p : ℕ) (x : Order) (ps : List Part) → Adds ps → Adds (one 49 p x ∷ ps)
  unfolding Adds one entered
  an_offer p x ps rest xs ys bids offers eb eo =
      let f = first _ offers p x _ eo in
      let t : nat_eq p (length ys + 1) ≡ true = eq-eqb p _ (omega (arith, f.place)) in
      rw f.is (
        done xs ys bids (x ∷ f.others),
        and_from _ _ t (le-leb 1 _ (omega arith)),
        rw (one_less (length f.others), ← (append_assoc ys (x ∷ []) f.others)) (rest xs (ys ++ (x ∷ [])) bids f.others eb (rw (grown ys x) f.behind)),
      )

  fills : (ps : List Part) → Sided ps → Adds ps
  unfolding entered Sided Adds one
  fills [] s = λ xs ys bids offers eb eo. rw (none_numbered _ bids eb, none_numbered _ offers eo, append-nil xs, append-nil ys) (refl, refl)
  fills (number f ∷ ps) s = λ xs ys bids offers eb eo. (done xs ys bids offers, refl, fills ps s xs ys bids offers eb eo)
  fills (torn ∷ ps) s = absurd s
  fills (entry e ∷ ps) s = let rest = fills ps s.1 in elim s.0 [
    | inl h ↦ subst (λ sd. Adds (one sd e.position e.order ∷ ps)) (sym h) (a_bid e.position e.order ps rest)
    | inr h ↦ subst (λ sd. Adds (one sd e.position e.order ∷ ps)) (sym h) (an_offer e.position e.order ps rest)
  ]

  pub orders_image : ImageLaw (orders o) (BookImage o)
  unfolding Adds
  orders_image h ps v i = (
    and_from _ _ (le-leb _ _ i.room_bids) (le-leb _ _ i.room_offers),
    rw (i.count_bids, i.count_offers) (fills ps i.sided [] [] v.bids v.offers i.all_bids i.all_offers),
  )

  passes : (v : Book) (d : Due) (p : Part) → concerns_book p ≡ false → (takes_part v d p ≡ true) × (put_part v d p ≡ v) × (less_part d p ≡ d)
  passes v d (entry e) c = absurd (true≢false c)
  passes v d (number f) c = (refl, refl, refl)
  passes v d torn c = absurd (true≢false c)

  pub orders-sound : Sound (orders o)
  orders-sound = record {
    aside = λ v d p. passes v d p;
    broken = λ v. refl;
    torn = λ v d. refl;
  }
