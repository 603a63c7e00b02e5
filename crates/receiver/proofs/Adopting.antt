-- A whole snapshot that becomes the book at a slot.
use Rattle.std.proofs.Common.{◌≡◌, ℕ, ◌<◌, max, Bool, true, false, cond, not, ◌&&◌, eqb, ltb, List, length, get_or, set, is_err, Ok, Err, Result, sym, refl, ap, ◌∙◌, subst, arith}
use Rattle.std.proofs.lemmas.Bool.{ltb-true, false≢true}
use Rattle.std.proofs.lemmas.Bool.Decides.{nat_tests}
use Rattle.layout.specs.declared.sheet.Sheet.{Sheet}
use Rattle.store.specs.Kind.{Kind, Model}
use Rattle.store.specs.declared.fault.StoreFault.{StoreFault}
use Rattle.store.specs.declared.fault.StoreFault.TheVariants.{Slot, Owed}
use Rattle.store.specs.Calls.{has_slot, is_whole, value_at, with_slot, adopt_answer, adopted as store_adopted}
use Rattle.recovery.specs.declared.marks.Mark.{Mark}
use Rattle.recovery.specs.declared.marks.Mark.TheVariants.{Stale, AsOf}
use Rattle.recovery.specs.declared.marks.Group.{Group}
use Rattle.recovery.specs.Shelf.{shelf_of, kept}
use Rattle.recovery.specs.Books.{book}
use Rattle.recovery.specs.State.{slot_in, slot_of, rest_of}
use Rattle.recovery.specs.Incremental.{settled}
use Rattle.recovery.specs.Updates.{hearing, with_plain, with_book}
use Rattle.recovery.specs.Groups.{idle, wanted, adopted}
use Rattle.settling.specs.declared.marks.Event.TheVariants.{Whole}
use Rattle.settling.specs.Marks.{comes}
use Rattle.settling.specs.Watched.{watch_of}
use Rattle.settling.specs.Each.{Puts, book_at}
use Rattle.settling.proofs.Writes.{puts, set_at, wrote, stays}
use Rattle.receiver.specs.declared.subscription.Subscription.{Subscription}
use Rattle.receiver.specs.declared.plain.Plain.{Plain}
use Rattle.settling.specs.Placed.{numbers_of, sizes_of}
use Rattle.receiver.specs.Standings.{opening_of, plain_of, state_in}

-- a snapshot that is not idle sets the mark
comes_adopts : (y : Mark) (n h : ℕ) → idle y n h ≡ false → comes (Whole n h) y ≡ AsOf n
comes_adopts Stale n h e = rw e
comes_adopts (AsOf m) n h e = rw e

pub fine : {E : Type 0} (r : Result (Unit {0}) E) → false ≡ is_err r → Ok tt ≡ r
fine (Ok x) e = refl
fine (Err x) e = absurd (false≢true e)

ok_both : (r b : Bool) (x : StoreFault) → ◌≡◌ {A = Result (Unit {0}) StoreFault} (Ok tt) (cond r (cond b (Ok tt) (Err Owed)) (Err x)) → (r ≡ true) × (b ≡ true)
ok_both true true x e = (refl, refl)
ok_both true false x e = let z : ◌≡◌ {A = ℕ} 0 1 = cc in absurd (omega arith)
ok_both false b x e = let z : ◌≡◌ {A = ℕ} 0 1 = cc in absurd (omega arith)

-- old numbers drop once more is heard
keeps : (sheet : Sheet) (heard n h : ℕ) (numbers lengths bytes : List ℕ) → h ≡ max heard n → (k : ℕ) → shelf_of sheet h numbers lengths bytes k ≡ kept h (shelf_of sheet heard numbers lengths bytes) k
keeps sheet heard n h numbers lengths bytes e k = grind (arith, nat_tests)

module _ {V O : Type 0} (K : Kind V O) (u : Subscription) (p p' : Plain) (m m' : Model V O) (bytes : List ℕ) (slot : ℕ) (g : Group)
    (is : slot ≡ slot_in (watch_of u.watch) g.security) (lt : slot < length p.marks.at) (busy : idle (get_or p.marks.at slot Stale) g.last p.places.heard ≡ false)
    (ok : Ok tt ≡ adopt_answer K m slot) where
  fit : (has_slot K m slot ≡ true) × (is_whole K m ≡ true)
  fit = ok_both (has_slot K m slot) (is_whole K m) (Slot slot) ok

  pub wants : true ≡ wanted K (opening_of u) g (state_in K u p m bytes)
  wants = sym (ap (λ z. ltb z (length m.slots) && not (idle (get_or p.marks.at z Stale) g.last p.places.heard)) (sym is) ∙ rw (fit.0, busy))

  module _ (after : m' ≡ store_adopted K m slot) (marks : p'.marks.at ≡ set p.marks.at slot (comes (Whole g.last p.places.heard) (get_or p.marks.at slot Stale)))
      (heard : p'.places.heard ≡ max p.places.heard g.last) (places : p'.places.at ≡ p.places.at)
      (joined : p'.joined ≡ p.joined) (followed : p'.followed ≡ p.followed) (pending : p'.pending ≡ p.pending) where
    shelf-is : (k : ℕ) → shelf_of u.sheet p'.places.heard (numbers_of p'.places.at) (sizes_of p'.places.at) bytes k ≡ kept (max p.places.heard g.last) (shelf_of u.sheet p.places.heard (numbers_of p.places.at) (sizes_of p.places.at) bytes) k
    shelf-is k = (λ j. shelf_of u.sheet (heard j) (numbers_of (places j)) (sizes_of (places j)) bytes k) ∙ keeps u.sheet p.places.heard g.last (max p.places.heard g.last) (numbers_of p.places.at) (sizes_of p.places.at) bytes refl k

    plain-is : plain_of u.sheet p' bytes ≡ hearing (max p.places.heard g.last) (kept (max p.places.heard g.last) (shelf_of u.sheet p.places.heard (numbers_of p.places.at) (sizes_of p.places.at) bytes)) (plain_of u.sheet p bytes)
    plain-is = λ j. record { heard = heard j; shelf = λ k. shelf-is k j; joined = joined j; followed = followed j; pending = pending j }

    wrote_is : m' ≡ with_slot K m slot m.staged
    wrote_is = after ∙ rw (fit.0, fit.1)

    puts_is : Puts K slot (book (AsOf g.last) m.staged) p.marks.at m p'.marks.at m'
    puts_is = puts K p.marks.at m slot _ (AsOf g.last) m.staged p'.marks.at m' refl
        (λ q. ap (λ z. get_or z q Stale) (marks ∙ ap (set p.marks.at slot) (comes_adopts (get_or p.marks.at slot Stale) g.last p.places.heard busy)) ∙ set_at p.marks.at slot (AsOf g.last) Stale lt q)
        (λ q. ap (λ z. value_at K z q) wrote_is ∙ wrote K p.marks.at m slot m.staged (ltb-true slot (length m.slots) fit.0) q)
        (stays K p.marks.at m slot m.staged ∙ ap (rest_of K) (sym wrote_is))

    books-is : (q : ℕ) → book_at K p'.marks.at m' q ≡ cond (eqb q (slot_of (opening_of u) g.security)) (book (AsOf g.last) m.staged) (book_at K p.marks.at m q)
    books-is q = puts_is.books q ∙ ap (λ z. cond (eqb q z) (book (AsOf g.last) m.staged) (book_at K p.marks.at m q)) is

    state_is : state_in K u p' m' bytes ≡ with_plain (hearing (max p.places.heard g.last) (kept (max p.places.heard g.last) (shelf_of u.sheet p.places.heard (numbers_of p.places.at) (sizes_of p.places.at) bytes)) (plain_of u.sheet p bytes)) (with_book (slot_of (opening_of u) g.security) (book (AsOf g.last) m.staged) (state_in K u p m bytes))
    state_is = λ j. record { plain = plain-is j; books = λ q. books-is q j; rest = sym puts_is.rest j }

    pub adopts : (K' : Kind V O) (p'' : Plain) (m'' : Model V O) → K' ≡ K → state_in K' u p'' m'' bytes ≡ settled K' (opening_of u) (state_in K' u p' m' bytes)
        → state_in K u p'' m'' bytes ≡ cond (wanted K (opening_of u) g (state_in K u p m bytes)) (adopted K (opening_of u) g (state_in K u p m bytes)) (state_in K u p m bytes)
    adopts K' p'' m'' same e =
        subst (λ z. state_in z u p'' m'' bytes ≡ settled z (opening_of u) (state_in z u p' m' bytes)) same e
        ∙ ap (settled K (opening_of u)) state_is
        ∙ ap (λ b. cond b (adopted K (opening_of u) g (state_in K u p m bytes)) (state_in K u p m bytes)) wants
