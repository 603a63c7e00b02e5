-- Settling a book, one packet at a time.
use Rattle.std.proofs.Common.{◌≡◌, ℕ, zero, suc, ◌+◌, ◌-◌, ◌<◌, ◌≤◌, Bool, true, false, cond, ◌&&◌, eqb, leb, List, [], ◌∷◌, sym, refl, ap, ◌∙◌, subst, ⊎_elim, arith}
use Rattle.std.proofs.lemmas.Bool.{eqb-true, eqb-false, eq-eqb, cases_lt}
use Rattle.message.specs.Meaning.{Msg, body, security}
use Rattle.store.specs.Kind.{Kind}
use Rattle.recovery.specs.declared.marks.Mark.{Mark}
use Rattle.recovery.specs.declared.marks.Mark.TheVariants.{Stale, AsOf}
use Rattle.recovery.specs.Shelf.{Found, absent, spoilt, intact, upon}
use Rattle.recovery.specs.Reading.{is_of, is_change, changes}
use Rattle.recovery.specs.Books.{Book, book, fit_all, after_all, lost, climb, aged, settle}
use Rattle.settling.specs.declared.marks.Event.TheVariants.{Taken, Spoilt, Aged}
use Rattle.settling.specs.Marks.{stands, falls}
use Rattle.settling.specs.Passes.{noted, feed, feeds, pass}
use Rattle.settling.specs.Each.{Low}
use Rattle.settling.proofs.Finding.{by_test}

module _ {V O : Type 0} (K : Kind V O) (i n : ℕ) where
  feed-idle : (m : Msg) (x : Book V) → stands n x.mark ≡ false → feed n m K i x ≡ x
  feed-idle m x e = go (is_of i (security m)) (is_change m.layout)
    where
      go : (a b : Bool) → cond a (cond (b && stands n x.mark) (cond (K.fits x.value (body m)) (book x.mark (K.after x.value (body m))) (lost K)) x) x ≡ x
      go true true = rw e
      go true false = refl
      go false b = refl

  feeds-idle : (ms : List Msg) (x : Book V) → stands n x.mark ≡ false → feeds n ms K i x ≡ x
  unfolding feeds
  feeds-idle [] x e = refl
  feeds-idle (m ∷ ms) x e = ap (feeds n ms K i) (feed-idle m x e) ∙ feeds-idle ms x e

  -- a packet does nothing to a book that stands elsewhere
  pub pass-idle : (f : Found) (x : Book V) → stands n x.mark ≡ false → pass n f K i x ≡ x
  pass-idle absent x e = refl
  pass-idle spoilt x e = noted-idle x.mark e
    where
      noted-idle : (y : Mark) → stands n y ≡ false → noted (Spoilt n) K i (book y x.value) ≡ book y x.value
      noted-idle Stale h = refl
      noted-idle (AsOf m) h = rw h
  pass-idle (intact ms) x e = ap (noted (Taken n) K i) (feeds-idle ms x e) ∙ noted-idle x.mark e
    where
      noted-idle : (y : Mark) → stands n y ≡ false → noted (Taken n) K i (book y x.value) ≡ book y x.value
      noted-idle Stale h = refl
      noted-idle (AsOf m) h = rw h

  -- where it stands at n, the messages all fit, or it is lost
  feeds-all : (ms : List Msg) (v : V) → feeds n ms K i (book (AsOf n) v) ≡ cond (fit_all K v (changes i ms)) (book (AsOf n) (after_all K v (changes i ms))) (lost K)
  unfolding feeds changes fit_all after_all
  feeds-all [] v = refl
  feeds-all (m ∷ ms) v = by_test (is_of i (security m))
      (λ a. by_test (is_change m.layout)
      (λ b. by_test (K.fits v (body m)) (λ f. rw (a, b, eq-eqb n n refl, f) (feeds-all ms (K.after v (body m)))) (λ f. rw (a, b, eq-eqb n n refl, f) (feeds-idle ms (lost K) refl)))
      (λ b. rw (a, b) (feeds-all ms v)))
      (λ a. rw a (feeds-all ms v))

  -- what a packet does to a book that stands at n
  pub pass-here : (f : Found) (v : V) → pass n f K i (book (AsOf n) v) ≡ upon f (book (AsOf n) v) (lost K) (λ ms. cond (fit_all K v (changes i ms)) (book (AsOf (n + 1)) (after_all K v (changes i ms))) (lost K))
  pass-here absent v = refl
  pass-here spoilt v = rw (eq-eqb n n refl)
  pass-here (intact ms) v = ap (noted (Taken n) K i) (feeds-all ms v) ∙ go (fit_all K v (changes i ms))
    where
      go : (b : Bool) → noted (Taken n) K i (cond b (book (AsOf n) (after_all K v (changes i ms))) (lost K)) ≡ cond b (book (AsOf (n + 1)) (after_all K v (changes i ms))) (lost K)
      go true = rw (eq-eqb n n refl)
      go false = refl

  -- no packet takes a book below where it stood
  low-here : (r : ℕ) (v : V) (f : Found) → r ≤ n → Low r (upon f (book (AsOf n) v) (lost K) (λ ms. cond (fit_all K v (changes i ms)) (book (AsOf (n + 1)) (after_all K v (changes i ms))) (lost K))).mark
  low-here r v absent l = l
  low-here r v spoilt l = tt
  low-here r v (intact ms) l = by (fit_all K v (changes i ms))
    where
      by : (b : Bool) → Low r (cond b (book (AsOf (n + 1)) (after_all K v (changes i ms))) (lost K)).mark
      by true = omega arith
      by false = tt

  low_at : (r : ℕ) (f : Found) (v : V) (y : Mark) → Low r y → Low r (pass n f K i (book y v)).mark
  low_at r f v Stale l = subst (λ x. Low r x.mark) (sym (pass-idle f (book Stale v) refl)) tt
  low_at r f v (AsOf m) l = by_test (eqb m n)
      (λ e. let is = eqb-true m n e in let le : r ≤ n = omega arith in rw is (subst (λ x. Low r x.mark) (sym (pass-here f v)) (low-here r v f le)))
      (λ e. subst (λ x. Low r x.mark) (sym (pass-idle f (book (AsOf m) v) e)) l)

  pub low-pass : (r : ℕ) (f : Found) (x : Book V) → Low r x.mark → Low r (pass n f K i x).mark
  low-pass r f x l = low_at r f x.value x.mark l

module _ {V O : Type 0} (K : Kind V O) (h : ℕ) (shelf : ℕ → Found) (low : (k : ℕ) → h < k → shelf k ≡ absent) (i : ℕ) where
  climb_stop : (f n : ℕ) (v : V) → shelf (n + 1) ≡ absent → climb K f shelf i n v ≡ book (AsOf n) v
  unfolding climb
  climb_stop zero n v e = refl
  climb_stop (suc f) n v e = rw e

  climb-one : (f n : ℕ) (v : V) → climb K (suc f) shelf i n v ≡ upon (shelf (n + 1)) (book (AsOf n) v) (lost K) (λ ms. cond (fit_all K v (changes i ms)) (climb K f shelf i (n + 1) (after_all K v (changes i ms))) (lost K))
  unfolding climb
  climb-one f n v = refl

  -- one more step, where the next packet is there
  more : (n : ℕ) → (shelf (n + 1) ≡ absent → ⊥) → h - n ≡ suc (h - (n + 1))
  more n d = ⊎_elim (λ (l : h < n + 1). absurd (d (low (n + 1) l))) (λ (l : n + 1 ≤ h). omega arith) (cases_lt h (n + 1))

  settle-cond : (b : Bool) (n : ℕ) (v : V) → aged K h (cond b (climb K (h - n) shelf i n v) (lost K)) ≡ settle K h shelf i (cond b (book (AsOf n) v) (lost K))
  settle-cond true n v = refl
  settle-cond false n v = refl

  settle-here : (n : ℕ) (v : V) (f : Found) → shelf (n + 1) ≡ f → aged K h (climb K (h - n) shelf i n v)
      ≡ settle K h shelf i (upon f (book (AsOf n) v) (lost K) (λ ms. cond (fit_all K v (changes i ms)) (book (AsOf (n + 1)) (after_all K v (changes i ms))) (lost K)))
  settle-here n v absent e = refl
  settle-here n v spoilt e = rw (more n (λ z. let w : ◌≡◌ {A = ℕ} 0 1 = cc in omega arith), climb-one (h - (n + 1)) n v, e)
  settle-here n v (intact ms) e = rw (more n (λ z. let w : ◌≡◌ {A = ℕ} 0 1 = cc in omega arith), climb-one (h - (n + 1)) n v, e) (settle-cond _ (n + 1) _)

  -- the packet after n leaves as much to settle as there was
  settle_at : (n : ℕ) (v : V) (y : Mark) → settle K h shelf i (book y v) ≡ settle K h shelf i (pass n (shelf (n + 1)) K i (book y v))
  settle_at n v Stale = ap (settle K h shelf i) (sym (pass-idle K i n (shelf (n + 1)) (book Stale v) refl))
  settle_at n v (AsOf m) = by_test (eqb m n)
      (λ e. rw (eqb-true m n e) (settle-here n v (shelf (n + 1)) refl ∙ ap (settle K h shelf i) (sym (pass-here K i n (shelf (n + 1)) v))))
      (λ e. ap (settle K h shelf i) (sym (pass-idle K i n (shelf (n + 1)) (book (AsOf m) v) e)))

  pub settle-pass : (n : ℕ) (x : Book V) → settle K h shelf i x ≡ settle K h shelf i (pass n (shelf (n + 1)) K i x)
  settle-pass n x = settle_at n x.value x.mark

  -- a book that stands below n has no packet after it
  abbrev pub Blocked : ℕ → Mark → Type 0
  Blocked n Stale = Unit {0}
  Blocked n (AsOf m) = m < n → shelf (m + 1) ≡ absent

  -- a book that the packet after n passed by, since it stands elsewhere or there is no packet
  pub blocked_idle : (n : ℕ) (y : Mark) → (stands n y ≡ true → shelf (n + 1) ≡ absent) → Blocked n y → Blocked (n + 1) y
  blocked_idle n Stale d b = tt
  blocked_idle n (AsOf m) d b = λ l. by_test (eqb m n) (λ e. rw (eqb-true m n e) (d e)) (λ e. let ne = eqb-false m n e in b (omega arith))

  blocked_here : (n : ℕ) (v : V) (f : Found) → shelf (n + 1) ≡ f → Blocked (n + 1) (upon f (book (AsOf n) v) (lost K) (λ ms. cond (fit_all K v (changes i ms)) (book (AsOf (n + 1)) (after_all K v (changes i ms))) (lost K))).mark
  blocked_here n v absent e = λ _. e
  blocked_here n v spoilt e = tt
  blocked_here n v (intact ms) e = by (fit_all K v (changes i ms))
    where
      by : (b : Bool) → Blocked (n + 1) (cond b (book (AsOf (n + 1)) (after_all K v (changes i ms))) (lost K)).mark
      by true = λ l. absurd (omega arith)
      by false = tt

  blocked_at : (n : ℕ) (v : V) (y : Mark) → Blocked n y → Blocked (n + 1) (pass n (shelf (n + 1)) K i (book y v)).mark
  blocked_at n v Stale b = subst (λ x. Blocked (n + 1) x.mark) (sym (pass-idle K i n (shelf (n + 1)) (book Stale v) refl)) tt
  blocked_at n v (AsOf m) b = by_test (eqb m n)
      (λ e. rw (eqb-true m n e) (subst (λ x. Blocked (n + 1) x.mark) (sym (pass-here K i n (shelf (n + 1)) v)) (blocked_here n v (shelf (n + 1)) refl)))
      (λ e. let ne = eqb-false m n e in subst (λ x. Blocked (n + 1) x.mark) (sym (pass-idle K i n (shelf (n + 1)) (book (AsOf m) v) e)) (λ l. b (omega arith)))

  pub blocked_pass : (n : ℕ) (x : Book V) → Blocked n x.mark → Blocked (n + 1) (pass n (shelf (n + 1)) K i x).mark
  blocked_pass n x b = blocked_at n x.value x.mark b

  grown-old : (m : ℕ) (v : V) → aged K h (book (AsOf m) v) ≡ noted (Aged h) K i (book (AsOf m) v)
  grown-old m v = go (leb (m + 33) h)
    where
      go : (b : Bool) → cond b (lost K) (book (AsOf m) v) ≡ book (cond b Stale (AsOf m)) (cond (falls (AsOf m) (cond b Stale (AsOf m))) K.fresh v)
      go true = refl
      go false = refl

  settle-end_at : (v : V) (y : Mark) → Blocked h y → settle K h shelf i (book y v) ≡ noted (Aged h) K i (book y v)
  settle-end_at v Stale b = refl
  settle-end_at v (AsOf m) b = ap (aged K h) (climb_stop (h - m) m v (⊎_elim (λ (l : m < h). b l) (λ (l : h ≤ m). low (m + 1) (omega arith)) (cases_lt m h))) ∙ grown-old m v

  -- once nothing is left to take
  pub settle-end : (x : Book V) → Blocked h x.mark → settle K h shelf i x ≡ noted (Aged h) K i x
  settle-end x b = settle-end_at x.value x.mark b
