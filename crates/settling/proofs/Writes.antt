-- The book at one slot written.
use Rattle.std.proofs.Common.{◌≡◌, ℕ, ◌<◌, ◌≤◌, Bool, true, false, cond, ◌&&◌, eqb, List, length, get_or, set, Ok, Err, Result, sym, refl, ap, ◌∙◌, subst, ap₂, ⊎_elim, arith}
use Rattle.std.proofs.lemmas.Bool.{lt-ltb, le-ltb, ltb-true, eqb-true, eqb-false, cond_both, cases_lt}
use Rattle.std.proofs.lemmas.List.{get_or-set_same, get_or-set_other, get_or_past, length-set}
use Rattle.message.specs.Meaning.{Msg, body}
use Rattle.store.specs.Kind.{Kind, Model}
use Rattle.store.specs.Calls.{value_at, with_slot, has_slot, fits_at, apply_answer, applied, freshened}
use Rattle.store.specs.declared.fault.StoreFault.{StoreFault}
use Rattle.store.specs.declared.fault.StoreFault.TheVariants.{Slot, Unfit}
use Rattle.recovery.specs.declared.marks.Mark.{Mark}
use Rattle.recovery.specs.declared.marks.Mark.TheVariants.{Stale, AsOf}
use Rattle.recovery.specs.Reading.{is_change}
use Rattle.recovery.specs.Books.{Book, book}
use Rattle.recovery.specs.State.{rest_of}
use Rattle.settling.specs.declared.marks.Event.{Event}
use Rattle.settling.specs.declared.marks.Event.TheVariants.{Misfit}
use Rattle.settling.specs.Marks.{stands, comes, falls}
use Rattle.settling.specs.Passes.{heeded, noted}
use Rattle.settling.specs.Each.{Puts, book_at, kind_in}

same_at : {A : Type 0} (f : ℕ → A) (p q : ℕ) → f q ≡ cond (eqb q p) (f p) (f q)
same_at {A} f p q = cond_both (eqb q p) (f p) (f q) (λ (x : A). f q ≡ x) (λ e. ap f (eqb-true q p e)) (λ e. refl)

pub set_at : {A : Type 0} (l : List A) (p : ℕ) (x d : A) → p < length l → (q : ℕ) → get_or (set l p x) q d ≡ cond (eqb q p) x (get_or l q d)
set_at {A} l p x d lt q = cond_both (eqb q p) x (get_or l q d) (λ (y : A). get_or (set l p x) q d ≡ y)
    (λ e. ap (λ k. get_or (set l p x) k d) (eqb-true q p e) ∙ get_or-set_same l p x d lt) (λ e. get_or-set_other l p q x d (eqb-false q p e))

both : {V : Type 0} (b : Bool) (a x a₀ : Mark) (c v c₀ : V) → a ≡ cond b x a₀ → c ≡ cond b v c₀ → book a c ≡ cond b (book x v) (book a₀ c₀)
both true a x a₀ c v c₀ e f = ap₂ book e f
both false a x a₀ c v c₀ e f = ap₂ book e f

-- what an answer says of slot and fit
ok_fits : (r b : Bool) (x : StoreFault) → ◌≡◌ {A = Result (Unit {0}) StoreFault} (Ok tt) (cond r (cond b (Ok tt) (Err Unfit)) (Err x)) → (r ≡ true) × (b ≡ true)
ok_fits true true x e = (refl, refl)
ok_fits true false x e = let z : ◌≡◌ {A = ℕ} 0 1 = cc in absurd (omega arith)
ok_fits false b x e = let z : ◌≡◌ {A = ℕ} 0 1 = cc in absurd (omega arith)

err_fits : (r b : Bool) (x y : StoreFault) → ◌≡◌ {A = Result (Unit {0}) StoreFault} (Err y) (cond r (cond b (Ok tt) (Err Unfit)) (Err x)) → (r && b) ≡ false
err_fits true true x y e = let z : ◌≡◌ {A = ℕ} 0 1 = cc in absurd (omega arith)
err_fits true false x y e = refl
err_fits false b x y e = refl

unchanged : {A : Type 0} (r b : Bool) (x y : A) → (r && b) ≡ false → cond r (cond b x y) y ≡ y
unchanged true true x y e = let z : ◌≡◌ {A = ℕ} 0 1 = cc in absurd (omega arith)
unchanged true false x y e = refl
unchanged false b x y e = refl

stood_falls : (n : ℕ) (y : Mark) → true ≡ stands n y → (comes Misfit y ≡ Stale) × (falls y (comes Misfit y) ≡ true)
stood_falls n Stale e = let z : ◌≡◌ {A = ℕ} 0 1 = cc in absurd (omega arith)
stood_falls n (AsOf m) e = (refl, refl)

module _ {V O : Type 0} (K : Kind V O) (ms : List Mark) (s : Model V O) (p : ℕ) where
  pub puts : (y : Book V) (x : Mark) (v : V) (ms' : List Mark) (s' : Model V O) → y ≡ book x v → ((q : ℕ) → get_or ms' q Stale ≡ cond (eqb q p) x (get_or ms q Stale)) → ((q : ℕ) → value_at K s' q ≡ cond (eqb q p) v (value_at K s q)) → rest_of K s ≡ rest_of K s' → Puts K p y ms s ms' s'
  puts y x v ms' s' e f g k = record { books = λ q. both (eqb q p) _ _ _ _ _ _ (f q) (g q) ∙ ap (λ z. cond (eqb q p) z (book_at K ms s q)) (sym e); rest = k }

  pub puts_same : (y : Book V) → y ≡ book_at K ms s p → Puts K p y ms s ms s
  puts_same y e = puts y (get_or ms p Stale) (value_at K s p) ms s e (same_at (λ q. get_or ms q Stale) p) (same_at (value_at K s) p) refl

  -- a slot written, where there is one
  pub wrote : (v : V) → p < length s.slots → (q : ℕ) → value_at K (with_slot K s p v) q ≡ cond (eqb q p) v (value_at K s q)
  wrote v l q = set_at s.slots p v K.fresh l q

  pub stays : (v : V) → rest_of K s ≡ rest_of K (with_slot K s p v)
  stays v = ap (λ n. record { room = n; staged = s.staged; owed = s.owed }) (sym (length-set s.slots p v))

  -- freshened: the fresh value is there, also where there is no slot
  pub fresh_at : (s' : Model V O) → s' ≡ freshened K s p → ((q : ℕ) → value_at K s' q ≡ cond (eqb q p) K.fresh (value_at K s q)) × (rest_of K s ≡ rest_of K s')
  fresh_at s' e = ⊎_elim
      (λ (l : p < length s.slots). let u : s' ≡ with_slot K s p K.fresh = e ∙ rw (lt-ltb p (length s.slots) l) in
      ((λ q. ap (λ z. value_at K z q) u ∙ wrote _ l q), stays _ ∙ ap (rest_of K) (sym u)))
      (λ (l : length s.slots ≤ p). let u : s' ≡ s = e ∙ rw (le-ltb p (length s.slots) l) in
      ((λ q. ap (λ z. value_at K z q) u ∙ same_at (value_at K s) p q ∙ ap (λ z. cond (eqb q p) z (value_at K s q)) (get_or_past s.slots p _ l)), ap (rest_of K) (sym u)))
      (cases_lt p (length s.slots))

  pub heed_ok : (s' : Model V O) (n : ℕ) (m : Msg) → true ≡ is_change m.layout → true ≡ stands n (get_or ms p Stale)
      → Ok tt ≡ apply_answer K s p (body m) → s' ≡ applied K s p (body m) → Puts K p (heeded n m (kind_in K s p) (book_at K ms s p)) ms s ms s'
  heed_ok s' n m a b o e =
      let f = ok_fits (has_slot K s p) (fits_at K s p (body m)) (Slot p) o in
      let u : s' ≡ with_slot K s p (K.after (value_at K s p) (body m)) = e ∙ rw (f.0, f.1) in
      puts _ (get_or ms p Stale) (K.after (value_at K s p) (body m)) ms s' (rw (sym a, sym b, f.0, f.1)) (same_at (λ q. get_or ms q Stale) p)
      (λ q. ap (λ z. value_at K z q) u ∙ wrote _ (ltb-true p (length s.slots) f.0) q) (stays _ ∙ ap (rest_of K) (sym u))

  pub heed_err : (K' : Kind V O) (s' s'' : Model V O) (ms'' : List Mark) (n : ℕ) (m : Msg) (x : StoreFault) → true ≡ is_change m.layout → true ≡ stands n (get_or ms p Stale)
      → Err x ≡ apply_answer K s p (body m) → s' ≡ applied K s p (body m) → K' ≡ K → Puts K' p (noted Misfit (kind_in K' s' p) 0 (book_at K' ms s' p)) ms s' ms'' s'' → Puts K p (heeded n m (kind_in K s p) (book_at K ms s p)) ms s ms'' s''
  heed_err K' s' s'' ms'' n m x a b o e k put =
      let f = err_fits (has_slot K s p) (fits_at K s p (body m)) (Slot p) x o in
      let same : s' ≡ s = e ∙ unchanged (has_slot K s p) (fits_at K s p (body m)) _ s f in
      let there : Puts K p (noted Misfit (kind_in K s p) 0 (book_at K ms s p)) ms s ms'' s'' =
      subst (λ z. Puts K p (noted Misfit (kind_in K z p) 0 (book_at K ms z p)) ms z ms'' s'') same (subst (λ z. Puts z p (noted Misfit (kind_in z s' p) 0 (book_at z ms s' p)) ms s' ms'' s'') k put) in
      let g = stood_falls n (get_or ms p Stale) b in
      let lose : noted Misfit (kind_in K s p) 0 (book_at K ms s p) ≡ book Stale K.fresh = rw (g.1, g.0) in
      let lost : heeded n m (kind_in K s p) (book_at K ms s p) ≡ book Stale K.fresh = rw (sym a, sym b, f) in
      subst (λ z. Puts K p z ms s ms'' s'') (lose ∙ sym lost) there

  pub heed_none : (n : ℕ) (m : Msg) → (is_change m.layout && stands n (get_or ms p Stale)) ≡ false → Puts K p (heeded n m (kind_in K s p) (book_at K ms s p)) ms s ms s
  heed_none n m e = puts_same _ (rw e)

  pub note_falls : (e : Event) (ms' : List Mark) (s' : Model V O) → p < length ms → ms' ≡ set ms p (comes e (get_or ms p Stale)) → true ≡ falls (get_or ms p Stale) (comes e (get_or ms p Stale)) → s' ≡ freshened K s p
      → Puts K p (noted e (kind_in K s p) 0 (book_at K ms s p)) ms s ms' s'
  note_falls e ms' s' l c f u = let g = fresh_at s' u in
      puts _ (comes e (get_or ms p Stale)) K.fresh _ s' (rw (sym f)) (λ q. ap (λ z. get_or z q Stale) c ∙ set_at ms p _ Stale l q) g.0 g.1

  pub note_stays : (e : Event) (ms' : List Mark) → p < length ms → ms' ≡ set ms p (comes e (get_or ms p Stale)) → false ≡ falls (get_or ms p Stale) (comes e (get_or ms p Stale))
      → Puts K p (noted e (kind_in K s p) 0 (book_at K ms s p)) ms s ms' s
  note_stays e ms' l c f = puts _ (comes e (get_or ms p Stale)) (value_at K s p) _ s (rw (sym f)) (λ q. ap (λ z. get_or z q Stale) c ∙ set_at ms p _ Stale l q) (same_at (value_at K s) p) refl
