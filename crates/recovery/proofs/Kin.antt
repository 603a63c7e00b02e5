-- What holds between a receiver and its reach, and how an adoption and a group's decision keep it.
use Rattle.std.proofs.Common.{◌≡◌, ℕ, suc, ◌+◌, ◌<◌, ◌≤◌, max, Bool, true, false, cond, not, ◌&&◌, ◌||◌, eqb, ltb, leb, List, [], ◌∷◌, length, get_or, Some, None, Option, sym, refl, ap, ◌∙◌, subst, arith}
use Rattle.std.proofs.lemmas.Bool.{eqb-true, eq-eqb, ltb-true, lt-ltb, false≢true}
use Rattle.message.specs.declared.values.HeaderFields.{HeaderFields}
use Rattle.message.specs.Meaning.{Part}
use Rattle.store.specs.Kind.{Kind}
use Rattle.store.specs.Law.{Fills}
use Rattle.recovery.specs.declared.marks.Mark.{Mark}
use Rattle.recovery.specs.declared.marks.Mark.TheVariants.{Stale, AsOf}
use Rattle.recovery.specs.declared.marks.Followed.{Followed}
use Rattle.recovery.specs.declared.marks.Group.{Group}
use Rattle.recovery.specs.Shelf.{Found, absent, spoilt, intact, is_there, kept}
use Rattle.recovery.specs.Reading.{Event}
use Rattle.recovery.specs.Books.{Book, book, kind_at, settle}
use Rattle.recovery.specs.State.{Opening, slot_in, slot_of, watched, Rest, State}
use Rattle.recovery.specs.Updates.{with_pending, with_book}
use Rattle.recovery.specs.Incremental.{id_at, renewed}
use Rattle.recovery.specs.Groups.{idle, group_of, wanted, adopted, decided}
use Rattle.recovery.specs.Publisher.{Publisher, value_at, Honest, pieces_of}
use Rattle.recovery.specs.Extents.{Extent, upto, Place, Parts, Reach, near, moved, led, behind, with_parts}
use Rattle.recovery.specs.Reach.{left, news, caught, judged}
use Rattle.recovery.proofs.Basics.{cond_two, by_test, ltb_not}
use Rattle.recovery.proofs.Books.{extent_of, GoodFound, Both, settle_ok}

abbrev pub place_of : Option Followed → Option Place
place_of None = None
place_of (Some f) = Some (record { loop = f.loop_number; last = f.last })

-- the instrument at the slot of i is i
id_slot : (xs : List ℕ) (i : ℕ) → ltb (slot_in xs i) (length xs) ≡ true → get_or xs (slot_in xs i) 0 ≡ i
id_slot [] i t = absurd (false≢true t)
id_slot (x ∷ xs) i t = by_test (eqb x i)
    (λ e. rw e (eqb-true x i e))
    (λ e. let u : suc (slot_in xs i) < suc (length xs) = ltb-true _ _ (subst (λ b. ltb (cond b 0 (suc (slot_in xs i))) (suc (length xs)) ≡ true) e t) in
    rw e (id_slot xs i (lt-ltb (slot_in xs i) (length xs) (omega (arith, u)))))

-- watched instruments have one slot only if they are one
slot_same : (o : Opening) (i j : ℕ) → watched o i ≡ true → watched o j ≡ true → eqb (slot_of o i) (slot_of o j) ≡ eqb i j
slot_same o i j wi wj = by_test (eqb i j)
    (λ e. let s : i ≡ j = eqb-true i j e in rw (e, s, eq-eqb (slot_of o j) (slot_of o j) refl))
    (λ e. by_test (eqb (slot_of o i) (slot_of o j))
    (λ t. let u : slot_of o i ≡ slot_of o j = eqb-true _ _ t in
    let v : i ≡ j = sym (id_slot o.watch i wi) ∙ ap (λ q. get_or o.watch q 0) u ∙ id_slot o.watch j wj in
    absurd (false≢true (sym e ∙ eq-eqb i j v)))
    (λ t. t ∙ sym e))

news_test : (x : Mark) (n h : ℕ) → not (idle x n h) ≡ (ltb h (n + 33) && behind (extent_of x) n)
news_test Stale n h = rw (ltb_not h (n + 33)) (go (leb (n + 33) h))
  where
    go : (b : Bool) → not b ≡ (not b && true)
    go true = refl
    go false = refl
news_test (AsOf m) n h = rw (ltb_not h (n + 33), ltb_not m n) (go (leb n m) (leb (n + 33) h))
  where
    go : (a b : Bool) → not (a || b) ≡ (not b && not a)
    go true true = refl
    go true false = refl
    go false true = refl
    go false false = refl

-- old numbers drop alike
pub kept_agrees : (h : ℕ) (shelf : ℕ → Found) (there : ℕ → Bool) → ((k : ℕ) → there k ≡ is_there (shelf k)) → (k : ℕ) → near h there k ≡ is_there (kept h shelf k)
kept_agrees h shelf there agree k = rw (agree k, ltb_not h (k + 32)) (go (leb (k + 32) h) (shelf k))
  where
    go : (b : Bool) (x : Found) → (is_there x && not b) ≡ is_there (cond b absent x)
    go true absent = refl
    go true spoilt = refl
    go true (intact ms) = refl
    go false absent = refl
    go false spoilt = refl
    go false (intact ms) = refl

module _ {V O : Type 0} (K : Kind V O) (P : Publisher) (Image : HeaderFields → List Part → V → Type 0) (honest : Honest K P Image) (o : Opening) where
  -- the open group: nothing but its own pieces is missing, from what is yet to come
  abbrev pub GoodOpen : List Event → Parts → Rest V O → Type 0
  GoodOpen fs p rest = (watched o p.of ≡ true) × (rest.owed ≡ left K o p.header p.pieces)
      × Fills K rest.staged rest.owed (pieces_of p.of fs) (value_at K P p.of p.header.last)

  abbrev pub GoodGroup : List Event → Option Group → Option Parts → Rest V O → Type 0
  GoodGroup fs None None rest = Unit {0}
  GoodGroup fs None (Some p) rest = ⊥
  GoodGroup fs (Some g) None rest = ⊥
  GoodGroup fs (Some g) (Some p) rest = (g ≡ group_of p.of p.header) × GoodOpen fs p rest

  abbrev pub GoodShelf : (ℕ → Found) → Type 0
  GoodShelf shelf = (k : ℕ) → GoodFound K P Image honest k (shelf k)

  abbrev pub Beside : ℕ → Book V → Extent → Type 0
  Beside i x e = Both K P Image honest i x e

  -- all but the group, in the loop l
  pub record Base (l : Option Followed) (s : State V O) (r : Reach) : Type 0 where
    pub heard : r.heard ≡ s.plain.heard
    pub there : (k : ℕ) → r.there k ≡ is_there (s.plain.shelf k)
    pub joined : r.joined ≡ s.plain.joined
    pub follow : s.plain.followed ≡ l
    pub place : r.place ≡ place_of l
    pub room : length o.watch ≤ s.rest.room
    pub shelf : GoodShelf s.plain.shelf
    pub books : (i : ℕ) → watched o i ≡ true → Beside i (s.books (slot_of o i)) (r.extent i)

  -- what holds between the two, with fs yet to come in the loop l
  pub record Rel (l : Option Followed) (fs : List Event) (s : State V O) (r : Reach) : Type 0 where
    pub base : Base l s r
    pub group : GoodGroup fs s.plain.pending r.parts s.rest

  -- heard becomes h and this is on the shelf
  pub renew_ok : (l : Option Followed) (fs : List Event) (s : State V O) (h h' : ℕ) (shelf : ℕ → Found) (there : ℕ → Bool) (extent : ℕ → Extent) (r : Reach)
      → h' ≡ h → GoodShelf shelf → ((k : ℕ) → near h there k ≡ is_there (shelf k)) → length o.watch ≤ s.rest.room
      → ((i : ℕ) → watched o i ≡ true → Beside i (s.books (slot_of o i)) (extent i))
      → r.joined ≡ s.plain.joined → s.plain.followed ≡ l → r.place ≡ place_of l → GoodGroup fs s.plain.pending r.parts s.rest
      → Rel l fs (renewed K o h shelf s) (moved h' there extent r)
  renew_ok l fs s h h' shelf there extent r e good agree room books j f p g = rw e (record {
    base = record { heard = refl; there = agree; joined = j; follow = f; place = p; room = room; shelf = good; books = each };
    group = g;
  })
    where
      each : (i : ℕ) → watched o i ≡ true → Beside i
          (cond (ltb (slot_of o i) (length o.watch)) (settle (kind_at K s.rest.room (slot_of o i)) h shelf (id_at o (slot_of o i)) (s.books (slot_of o i))) (s.books (slot_of o i)))
          (led h (near h there) (extent i))
      each i w = rw (w, id_slot o.watch i w)
          (settle_ok K P Image honest shelf (near h there) good agree i h s.rest.room (slot_of o i) (s.books (slot_of o i)) (extent i)
          (lt-ltb (slot_of o i) s.rest.room (omega (arith, ltb-true _ _ w, room))) (books i w))

  -- whenever nothing is owed, the staged value is the one
  fills-whole : (x : V) (w : O) (ps : List Part) (v : V) → Fills K x w ps v → K.whole w ≡ true → x ≡ v
  fills-whole x w [] v f t = f.1
  fills-whole x w (p ∷ ps) v f t = f.0 t

  pub base_group : (l : Option Followed) (s : State V O) (r : Reach) (g : Option Group) (p : Option Parts) → Base l s r → Base l (with_pending g s) (with_parts p r)
  base_group l s r g p b = record { heard = b.heard; there = b.there; joined = b.joined; follow = b.follow; place = b.place; room = b.room; shelf = b.shelf; books = b.books }

  module _ (l : Option Followed) (fs : List Event) (p : Parts) (s : State V O) (r : Reach) (b : Base l s r) (g : GoodOpen fs p s.rest) where
    pub wanted-news : wanted K o (group_of p.of p.header) s ≡ news K o p r
    wanted-news =
        let w = (b.books p.of g.0).1 in
        rw (lt-ltb (slot_of o p.of) s.rest.room (omega (arith, ltb-true _ _ g.0, b.room)), b.heard, ← w) (news_test (s.books (slot_of o p.of)).mark p.header.last s.plain.heard)

    adopts : K.whole s.rest.owed ≡ true → Rel l fs (adopted K o (group_of p.of p.header) (with_pending None s)) (caught K o p (with_parts None r))
    adopts t = renew_ok l fs (with_book (slot_of o p.of) (book (AsOf p.header.last) s.rest.staged) (with_pending None s))
        (max s.plain.heard p.header.last) (max r.heard p.header.last) (kept (max s.plain.heard p.header.last) s.plain.shelf) r.there
        (λ i. cond (eqb i p.of) (upto p.header.last) (r.extent i)) (with_parts None r)
        (ap (λ h. max h p.header.last) b.heard) (λ k. keeps k (s.plain.shelf k) (b.shelf k) (leb (k + 32) (max s.plain.heard p.header.last)))
        (kept_agrees (max s.plain.heard p.header.last) s.plain.shelf r.there b.there) b.room each b.joined b.follow b.place tt
      where
        keeps : (k : ℕ) (x : Found) → GoodFound K P Image honest k x → (c : Bool) → GoodFound K P Image honest k (cond c absent x)
        keeps k x y true = tt
        keeps k x y false = y

        each : (i : ℕ) → watched o i ≡ true → Beside i (cond (eqb (slot_of o i) (slot_of o p.of)) (book (AsOf p.header.last) s.rest.staged) (s.books (slot_of o i))) (cond (eqb i p.of) (upto p.header.last) (r.extent i))
        each i w = cond_two (Beside i) (eqb (slot_of o i) (slot_of o p.of)) (eqb i p.of) (slot_same o i p.of w g.0) _ _ _ _
            (λ u. let same : i ≡ p.of = eqb-true i p.of (sym (slot_same o i p.of w g.0) ∙ u) in
            (subst (λ j. s.rest.staged ≡ value_at K P j p.header.last) (sym same) (fills-whole _ _ _ _ g.2 t), refl))
            (λ _. b.books i w)

    pub decide_ok : s.plain.pending ≡ Some (group_of p.of p.header) → Rel l fs (decided K o (group_of p.of p.header) s) (judged K o p r)
    decide_ok e = cond_two (Rel l fs) (K.whole s.rest.owed) _ (ap K.whole g.1) _ _ _ _
        (λ t. cond_two (Rel l fs) (wanted K o (group_of p.of p.header) s) (news K o p r) wanted-news _ _ _ _
        (λ _. adopts t)
        (λ _. record { base = base_group l s r None None b; group = tt }))
        (λ _. record { base = record { heard = b.heard; there = b.there; joined = b.joined; follow = b.follow; place = b.place; room = b.room; shelf = b.shelf; books = b.books }; group = rw e (refl, g) })
