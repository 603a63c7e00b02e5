-- The loop over the packet numbers.
use Rattle.std.proofs.Common.{◌≡◌, ℕ, ◌+◌, ◌-◌, ◌%◌, ◌<◌, ◌≤◌, max, true, false, List, length, get_or, sym, refl, ap, ◌∙◌, subst, arith}
use Rattle.std.proofs.lemmas.Bool.Decides.{nat_tests}
use Rattle.layout.specs.declared.sheet.Sheet.{Sheet}
use Rattle.store.specs.Kind.{Kind, Model}
use Rattle.recovery.specs.declared.marks.Mark.{Mark}
use Rattle.recovery.specs.declared.marks.Mark.TheVariants.{Stale, AsOf}
use Rattle.recovery.specs.Shelf.{Found, absent, shelved, part_of, reading, shelf_of}
use Rattle.recovery.specs.Books.{Book, book, kind_at, settle}
use Rattle.settling.specs.declared.places.Places.{Places}
use Rattle.settling.specs.declared.marks.Event.TheVariants.{Aged}
use Rattle.settling.specs.Marks.{stands}
use Rattle.settling.specs.Passes.{noted, pass}
use Rattle.settling.specs.Each.{Meets, Each, Low, book_at, kind_in}
use Rattle.settling.proofs.Meeting.{start, turn}
use Rattle.settling.specs.Placed.{numbers_of, sizes_of}
use Rattle.settling.proofs.Climbing.{Blocked, blocked_idle, blocked_pass, low-pass, settle-pass, settle-end}

module _ (sheet : Sheet) (t : Places) (bytes : List ℕ) where
  abbrev pub found : ℕ → Found
  found k = shelf_of sheet t.heard (numbers_of t.at) (sizes_of t.at) bytes k

  pub low : (k : ℕ) → t.heard < k → found k ≡ absent
  low k l = let u = t.low (k % 32) in grind (arith, nat_tests)

  old : (k : ℕ) → k + 32 ≤ t.heard → found k ≡ absent
  old k l = grind (arith, nat_tests)

  pub unshelved : (k : ℕ) → false ≡ shelved t.heard (numbers_of t.at) k → found k ≡ absent
  unshelved k e = rw (sym e)

  pub on_shelf : (k : ℕ) → true ≡ shelved t.heard (numbers_of t.at) k → reading sheet (part_of (sizes_of t.at) bytes k) ≡ found k
  on_shelf k e = rw (sym e)

-- watched books stand at r or above
abbrev pub Lows : List ℕ → ℕ → List Mark → Type 0
Lows w r ms = (q : ℕ) → q < length w → Low r (get_or ms q Stale)

module _ {V O : Type 0} (K : Kind V O) (w : List ℕ) where
  pub lows_take : (r n : ℕ) (f : Found) (ms : List Mark) (s : Model V O) (ms' : List Mark) (s' : Model V O) → Lows w r ms → Each K w (pass n f) ms s ms' s' → Lows w r ms'
  lows_take r n f ms s ms' s' l e = λ q lt. subst (λ b. Low r b.mark) (e.books q lt) (low-pass (kind_in K s q) (get_or w q 0) n r f (book_at K ms s q) (l q lt))

  -- none that is near enough gets stale by age
  near : (k : Kind V O) (i r h : ℕ) (v : V) (y : Mark) → Low r y → h < r + 33 → noted (Aged h) k i (book y v) ≡ book y v
  near k i r h v Stale l g = refl
  near k i r h v (AsOf m) l g = grind (arith, nat_tests)

  pub lows_aged : (r h : ℕ) (ms : List Mark) (s : Model V O) → Lows w r ms → h < r + 33 → Each K w (noted (Aged h)) ms s ms s
  lows_aged r h ms s l g = record { books = λ q lt. near (kind_in K s q) (get_or w q 0) r h _ (get_or ms q Stale) (l q lt) g; others = λ q _. refl; rest = refl }

module _ {V O : Type 0} (K : Kind V O) (w : List ℕ) (sheet : Sheet) (t : Places) (bytes : List ℕ) where
  abbrev pub Settles : Kind V O → ℕ → Book V → Book V
  Settles k i x = settle k t.heard (found sheet t bytes) i x

  abbrev Stopped : ℕ → Mark → Type 0
  Stopped n y = Blocked K t.heard (found sheet t bytes) (low sheet t bytes) 0 n y

  -- before the packet after n: as much is left to settle as there was, and below n nothing is left
  pub record Inv (n : ℕ) (ms₀ : List Mark) (s₀ : Model V O) (ms : List Mark) (s : Model V O) : Type 0 where
    pub meets : Meets K w Settles Settles ms₀ s₀ ms s
    pub blocked : (q : ℕ) → q < length w → Stopped n (get_or ms q Stale)

  low_blocked : (r n : ℕ) (y : Mark) → Low r y → n ≡ max r (t.heard - 32) → Stopped n y
  low_blocked r n Stale b e = tt
  low_blocked r n (AsOf m) b e = λ l. old sheet t bytes (m + 1) (omega arith)

  pub inv_start : (r n : ℕ) (ms : List Mark) (s : Model V O) → ((q : ℕ) → q < length w → Low r (get_or ms q Stale)) → n ≡ max r (t.heard - 32) → Inv n ms s ms s
  inv_start r n ms s l e = record { meets = start K w Settles ms s; blocked = λ q lt. low_blocked r n _ (l q lt) e }

  module _ (n : ℕ) (ms₀ : List Mark) (s₀ : Model V O) (ms : List Mark) (s : Model V O) (inv : Inv n ms₀ s₀ ms s) where
    pub inv_idle : ((q : ℕ) → q < length w → stands n (get_or ms q Stale) ≡ true → found sheet t bytes (n + 1) ≡ absent) → Inv (n + 1) ms₀ s₀ ms s
    inv_idle d = record { meets = inv.meets; blocked = λ q lt. blocked_idle K t.heard (found sheet t bytes) (low sheet t bytes) 0 n (get_or ms q Stale) (d q lt) (inv.blocked q lt) }

    pub inv_take : (K' : Kind V O) (ms' : List Mark) (s' : Model V O) → K' ≡ K → Each K' w (pass n (found sheet t bytes (n + 1))) ms s ms' s' → Inv (n + 1) ms₀ s₀ ms' s'
    inv_take K' ms' s' same e =
        let e' = subst (λ z. Each z w (pass n (found sheet t bytes (n + 1))) ms s ms' s') same e in record {
          meets = turn K w same inv.meets e (λ k i x. settle-pass k t.heard (found sheet t bytes) (low sheet t bytes) i n x);
          blocked = λ q lt. subst (λ b. Stopped (n + 1) b.mark) (e'.books q lt)
              (blocked_pass (kind_in K s q) t.heard (found sheet t bytes) (low sheet t bytes) (get_or w q 0) n (book_at K ms s q) (inv.blocked q lt));
        }

    pub inv_end : (K' : Kind V O) (ms' : List Mark) (s' : Model V O) → K' ≡ K → n ≡ t.heard → Each K' w (noted (Aged t.heard)) ms s ms' s' → Each K w Settles ms₀ s₀ ms' s'
    inv_end K' ms' s' same is ended =
        let m = inv.meets in let e = subst (λ z. Each z w (noted (Aged t.heard)) ms s ms' s') same ended in record {
          books = λ q lt. m.books q lt
              ∙ settle-end (kind_in K s₀ q) t.heard (found sheet t bytes) (low sheet t bytes) (get_or w q 0) (book_at K ms s q) (subst (λ k. Stopped k (get_or ms q Stale)) is (inv.blocked q lt))
              ∙ ap (λ r. noted (Aged t.heard) (kind_at K r.room q) (get_or w q 0) (book_at K ms s q)) m.rest ∙ e.books q lt;
          others = λ q le. m.others q le ∙ e.others q le;
          rest = m.rest ∙ e.rest;
        }
