-- What the steps of reach keep: the invariant of a settled state, and how one state goes on to another.
use Rattle.std.proofs.Common.{◌≡◌, ℕ, zero, suc, ◌+◌, ◌-◌, ◌<◌, ◌≤◌, max, Bool, true, false, cond, ◌||◌, eqb, ltb, leb, ◌⊎◌, Option, sym, refl, ap, ◌∙◌, inl, inr, arith}
use Rattle.std.proofs.lemmas.Bool.{eqb-true, leb-true, leb-false, ltb-true, lt-ltb, eq-eqb, and_parts, and_from, or_left, or_right, or_cases, false≢true}
use Rattle.recovery.specs.Extents.{Extent, nowhere, upto, Place, Parts, Reach, untouched, onward, led, near, moved, behind}
use Rattle.recovery.specs.State.{Opening, watched}
use Rattle.recovery.proofs.Basics.{by_test}

pub never : {X : Type 0} {n : ℕ} → nowhere ≡ upto n → X
never {n} e = let z : ◌≡◌ {A = ℕ} 0 1 = cc in absurd (omega arith)

none_above : (there : ℕ → Bool) (h : ℕ) → ((k : ℕ) → there k ≡ true → k ≤ h) → (k : ℕ) → h < k → there k ≡ false
none_above there h low k lt = by_test (there k) (λ t. absurd (omega (arith, low k t))) (λ t. t)

-- as far as the packets at hand lead on, and no further
onward_ok : (there : ℕ → Bool) (h : ℕ) → ((k : ℕ) → there k ≡ true → k ≤ h) → (f n : ℕ) → n ≤ h → h ≤ n + f
    → (n ≤ onward f there n) × (onward f there n ≤ h) × (there (suc (onward f there n)) ≡ false)
unfolding onward
onward_ok there h low zero n le fuel = (omega arith, le, none_above there h low (suc n) (omega arith))
onward_ok there h low (suc f) n le fuel = by_test (there (suc n))
    (λ e. let ih = onward_ok there h low f (suc n) (low (suc n) e) (omega arith) in rw e (omega (arith, ih.0), ih.1, ih.2))
    (λ e. rw e (omega arith, le, e))

module _ (there : ℕ → Bool) (h : ℕ) (low : (k : ℕ) → there k ≡ true → k ≤ h) where
  from : (n : ℕ) → n ≤ h → (n ≤ onward (h - n) there n) × (onward (h - n) there n ≤ h) × (there (suc (onward (h - n) there n)) ≡ false)
  from n le = onward_ok there h low (h - n) n le (omega arith)

  led_ok : (m : Extent) → ((a : ℕ) → m ≡ upto a → a ≤ h) → (a : ℕ) → led h there m ≡ upto a → (a ≤ h) × (h < a + 33) × (there (suc a) ≡ false)
  led_ok nowhere le a e = never e
  led_ok (upto n) le a e = go (leb h (onward (h - n) there n + 32)) refl e
    where
      go : (b : Bool) → leb h (onward (h - n) there n + 32) ≡ b → cond b (upto (onward (h - n) there n)) nowhere ≡ upto a → (a ≤ h) × (h < a + 33) × (there (suc a) ≡ false)
      go true t e = let ok = from n (le n refl) in let u : onward (h - n) there n ≡ a = cc in let l = leb-true _ _ t in rw (← u) (ok.1, omega (arith, l), ok.2)
      go false t e = never e

  led_on : (n : ℕ) → n ≤ h → ((a : ℕ) × (led h there (upto n) ≡ upto a) × (n ≤ a)) ⊎ (n + 33 ≤ h)
  led_on n le = go (leb h (onward (h - n) there n + 32)) refl
    where
      go : (b : Bool) → leb h (onward (h - n) there n + 32) ≡ b → ((a : ℕ) × (cond b (upto (onward (h - n) there n)) nowhere ≡ upto a) × (n ≤ a)) ⊎ (n + 33 ≤ h)
      go true t = inl (onward (h - n) there n, refl, (from n le).0)
      go false t = let l = leb-false _ _ t in inr (omega (arith, (from n le).0, l))

near-there : (h : ℕ) (there : ℕ → Bool) (k : ℕ) → near h there k ≡ true → there k ≡ true
near-there h there k t = (and_parts (there k) (ltb h (k + 32)) t).0

there-near : (h : ℕ) (there : ℕ → Bool) (k : ℕ) → there k ≡ true → h < k + 32 → near h there k ≡ true
there-near h there k t lt = and_from (there k) (ltb h (k + 32)) t (lt-ltb h (k + 32) lt)

-- a settled state
pub record Settled (r : Reach) : Type 0 where
  pub low : (k : ℕ) → r.there k ≡ true → k ≤ r.heard
  pub close : (i a : ℕ) → r.extent i ≡ upto a → (a ≤ r.heard) × (r.heard < a + 33) × (r.there (suc a) ≡ false)

-- nothing that is near enough is lost on the way
pub record Goes (r r' : Reach) : Type 0 where
  pub up : r.heard ≤ r'.heard
  pub keep : (k : ℕ) → r.there k ≡ true → r'.heard < k + 32 → r'.there k ≡ true
  pub further : (i a : ℕ) → r.extent i ≡ upto a → ((a' : ℕ) × (r'.extent i ≡ upto a') × (a ≤ a')) ⊎ (a + 33 ≤ r'.heard)

pub record Moves (r r' : Reach) : Type 0 where
  pub settled : Settled r'
  pub goes : Goes r r'

pub goes_on_lem : {r r' r'' : Reach} → Goes r r' → Goes r' r'' → Goes r r''
goes_on_lem {r} {r'} {r''} f g = record {
  up = omega (arith, f.up, g.up);
  keep = λ k t lt. g.keep k (f.keep k t (omega (arith, g.up))) lt;
  further = λ i a e. elim (f.further i a e) [
    | inl x ↦ elim (g.further i x.0 x.1) [ inl y ↦ inl (y.0, y.1, omega (arith, x.2, y.2)) | inr far ↦ inr (omega (arith, x.2)) ]
    | inr far ↦ inr (omega (arith, g.up))
  ];
}

-- the highest heard, the packets at hand and the extents as they were
pub still : (r : Reach) (j : Bool) (l : Option Place) (p : Option Parts) → Settled r
    → Moves r (record { heard = r.heard; there = r.there; extent = r.extent; joined = j; place = l; parts = p })
still r j l p s = record {
  settled = record { low = s.low; close = s.close };
  goes = record { up = omega arith; keep = λ k t _. t; further = λ i a e. inl (a, e, omega arith) };
}

pub moved_ok : (r r₀ : Reach) (h : ℕ) (there : ℕ → Bool) (extent : ℕ → Extent)
    → r.heard ≤ h → ((k : ℕ) → r.there k ≡ true → there k ≡ true) → ((k : ℕ) → there k ≡ true → k ≤ h)
    → ((i a : ℕ) → r.extent i ≡ upto a → (a' : ℕ) × (extent i ≡ upto a') × (a ≤ a')) → ((i a : ℕ) → extent i ≡ upto a → a ≤ h)
    → Moves r (moved h there extent r₀)
moved_ok r r₀ h there extent up more low ahead le = record {
  settled = record { low = low'; close = λ i a e. led_ok (near h there) h low' (extent i) (le i) a e };
  goes = record { up = up; keep = λ k t lt. there-near h there k (more k t) lt; further = λ i a e. on i a (ahead i a e) };
}
  where
    low' : (k : ℕ) → near h there k ≡ true → k ≤ h
    low' k t = low k (near-there h there k t)

    on : (i a : ℕ) → (a' : ℕ) × (extent i ≡ upto a') × (a ≤ a') → ((a' : ℕ) × (led h (near h there) (extent i) ≡ upto a') × (a ≤ a')) ⊎ (a + 33 ≤ h)
    on i a x = rw x.1 (elim (led_on (near h there) h low' x.0 (le i x.0 x.1)) [
      | inl y ↦ inl (y.0, y.1, omega (arith, x.2, y.2))
      | inr far ↦ inr (omega (arith, x.2))
    ])

-- an adoption for the instrument j at n, which is news: it moves, and the instrument is then somewhere from n on
module _ (r r₀ : Reach) (s : Settled r) (j n : ℕ) (recent : r.heard < n + 33) (ahead : behind (r.extent j) n ≡ true) where
  abbrev pub caught_up : Reach
  caught_up = moved (max r.heard n) r.there (λ i. cond (eqb i j) (upto n) (r.extent i)) r₀

  below : (m : Extent) (a : ℕ) → behind m n ≡ true → m ≡ upto a → a < n
  below nowhere a t e = never e
  below (upto b) a t e = let u : b ≡ a = cc in let l = ltb-true b n t in omega (arith, l)

  pub caught-moves : Moves r caught_up
  caught-moves = moved_ok r r₀ (max r.heard n) r.there (λ i. cond (eqb i j) (upto n) (r.extent i))
      (omega arith) (λ k t. t) (λ k t. omega (arith, s.low k t)) (λ i a e. forth i a e (eqb i j) refl) (λ i a e. bound i a (eqb i j) e)
    where
      forth : (i a : ℕ) → r.extent i ≡ upto a → (b : Bool) → eqb i j ≡ b → (a' : ℕ) × (cond b (upto n) (r.extent i) ≡ upto a') × (a ≤ a')
      forth i a e true u = (n, refl, let same : i ≡ j = eqb-true _ _ u in let lt : a < n = below (r.extent j) a ahead (ap r.extent (sym same) ∙ e) in omega arith)
      forth i a e false u = (a, e, omega arith)

      bound : (i a : ℕ) (b : Bool) → cond b (upto n) (r.extent i) ≡ upto a → a ≤ max r.heard n
      bound i a true e = let u : n ≡ a = cc in omega arith
      bound i a false e = omega (arith, (s.close i a e).0)

  pub caught_at : (a : ℕ) × (caught_up.extent j ≡ upto a) × (n ≤ a)
  caught_at = rw (eq-eqb j j refl) (elim (led_on (near h r.there) h low' n (omega arith)) [ inl x ↦ x | inr far ↦ absurd (omega arith) ])
    where
      h : ℕ
      h = max r.heard n

      low' : (k : ℕ) → near h r.there k ≡ true → k ≤ h
      low' k t = omega (arith, s.low k (near-there h r.there k t))

-- a packet q that comes
pub packet_moves : (r : Reach) → Settled r → (q : ℕ) → Moves r (moved (max r.heard q) (λ k. eqb k q || r.there k) r.extent r)
packet_moves r s q = moved_ok r r (max r.heard q) (λ k. eqb k q || r.there k) r.extent
    (omega arith) (λ k t. or_right (eqb k q) (r.there k) t) low (λ i a e. (a, e, omega arith)) (λ i a e. omega (arith, (s.close i a e).0))
  where
    low : (k : ℕ) → (eqb k q || r.there k) ≡ true → k ≤ max r.heard q
    low k t = elim (or_cases (eqb k q) (r.there k) t) [ inl u ↦ omega (arith, eqb-true k q u) | inr u ↦ omega (arith, s.low k u) ]

pub packet_there : (r : Reach) (q : ℕ) → r.heard < q + 32 → (moved (max r.heard q) (λ k. eqb k q || r.there k) r.extent r).there q ≡ true
packet_there r q lt = there-near (max r.heard q) (λ k. eqb k q || r.there k) q (or_left (eqb q q) (r.there q) (eq-eqb q q refl)) (omega arith)

pub untouched-settled : (o : Opening) → Settled (untouched o)
untouched-settled o = record { low = λ k t. absurd (false≢true t); close = λ i a e. go a (watched o i) e }
  where
    go : (a : ℕ) (b : Bool) → cond b (upto 0) nowhere ≡ upto a → (a ≤ 0) × (0 < a + 33) × (false ≡ false)
    go a true e = let u : 0 ≡ a = cc in (omega arith, omega arith, refl)
    go a false e = never e
