-- The recovery guarantee.
use Rattle.std.proofs.Common.{◌≡◌, ℕ, ◌<◌, ◌≤◌, Bool, true, false, cond, not, ◌&&◌, eqb, ltb, leb, ◌⊎◌, List, [], ◌∷◌, ◌++◌, length, is_ok, sym, refl, ap, ◌∙◌, subst, ap₂, inl, inr, arith}
use Rattle.std.proofs.lemmas.Bool.{eq-eqb, ltb-false, false≢true}
use Rattle.message.specs.declared.values.HeaderFields.{HeaderFields}
use Rattle.message.specs.Meaning.{Part}
use Rattle.packet.specs.Rules.{and_then}
use Rattle.store.specs.Kind.{Kind, Model}
use Rattle.store.specs.Law.{ImageLaw}
use Rattle.recovery.specs.declared.answers.Sign.{Sign}
use Rattle.recovery.specs.declared.answers.Sign.TheVariants as signs
use Rattle.recovery.specs.declared.fault.StreamFault.TheVariants.{WatchList, OwnVersion, Slots}
use Rattle.recovery.specs.declared.marks.Mark.{Mark}
use Rattle.recovery.specs.declared.marks.Mark.TheVariants.{Stale, AsOf}
use Rattle.recovery.specs.Shelf.{is_there}
use Rattle.recovery.specs.State.{Opening, slot_of, watched, distinct, State, opened}
use Rattle.recovery.specs.Answers.{refuses, lawful_version, opening_check, standing}
use Rattle.recovery.specs.Log.{Adoption}
use Rattle.recovery.specs.Calls.{Call, incremental, join, leave, snapshot, question, taken, step, run, after, Shown, shown}
use Rattle.recovery.specs.Publisher.{Publisher, value_at, Honest, Brings, Fed}
use Rattle.recovery.specs.Extents.{Extent, nowhere, upto, Reach, untouched}
use Rattle.recovery.specs.Reach.{takes_snapshot, reach_step, reach_run, Reached, at_heard, reach_of}
use Rattle.recovery.specs.Guarantee.{Logged, IsPacket, Served, TrueBooks, SameReach, AdoptsBy, Adopts, TakenIn, ComesCurrent, Recovery}
use Rattle.recovery.proofs.Books.{extent_of, GoodBy}
use Rattle.recovery.proofs.Course.{Settled, untouched-settled}
use Rattle.recovery.proofs.Way.{Midway, TakesNow, TakesIn, step-moves, snapshot_mid, comes, run_settled}
use Rattle.recovery.proofs.Runs.{Kin, packet_taken, snapshot-taken, step_ok, adoptions-same, run_ok, opened_ok}

-- an opening that is not refused has slots enough
roomy : (a b c : Bool) → is_ok (and_then (refuses a WatchList) (λ _. and_then (refuses b OwnVersion) (λ _. refuses c Slots))) ≡ true → c ≡ false
roomy true b c e = absurd (false≢true e)
roomy false true c e = absurd (false≢true e)
roomy false false true e = absurd (false≢true e)
roomy false false false e = refl

-- what is shown of a book, at the highest packet heard
abbrev look : {V : Type 0} → ℕ → Mark → V → Shown V
look h x v = record { sign = (standing h x).sign; number = (standing h x).number; book = v }

abbrev reached : ℕ → Extent → Reached
reached h e = record { extent = e; all = at_heard h e }

-- reach, read off what is shown
abbrev read_by : Sign → ℕ → Reached
read_by signs.Stale n = record { extent = nowhere; all = false }
read_by signs.Recovering n = record { extent = upto n; all = false }
read_by signs.Current n = record { extent = upto n; all = true }

abbrev read : {V : Type 0} → Shown V → Reached
read s = read_by s.sign s.number

read_look : {V : Type 0} (h : ℕ) (x : Mark) (v : V) → read (look h x v) ≡ reached h (extent_of x)
read_look h Stale v = refl
read_look h (AsOf n) v = go (eqb n h)
  where
    go : (b : Bool) → read_by (cond b signs.Current signs.Recovering) n ≡ record { extent = upto n; all = b }
    go true = refl
    go false = refl

module _ {V O : Type 0} (K : Kind V O) (Image : HeaderFields → List Part → V → Type 0) (law : ImageLaw K Image) (P : Publisher) (honest : Honest K P Image) where
  opens_kin : (o : Opening) (store : Model V O) → is_ok (opening_check o.watch o.version (length store.slots)) ≡ true → Kin K P Image honest o (opened K o store) (untouched o)
  opens_kin o store e = opened_ok K P Image honest o law store
      (ltb-false _ _ (roomy (not (ltb 0 (length o.watch) && (leb (length o.watch) 64 && distinct o.watch))) (not (lawful_version o.version)) (ltb (length store.slots) (length o.watch)) e))

  kin : (o : Opening) (store : Model V O) (cs : List Call) → Served K P o store cs → Kin K P Image honest o (after K o store cs) (reach_run K o (untouched o) cs)
  kin o store cs served = run_ok K P Image honest o law cs (opened K o store) (untouched o) (opens_kin o store served.0) served.1

  true_book : (h i : ℕ) (x : Mark) (v : V) → GoodBy K P Image honest i v x → ((look h x v).sign ≡ signs.Stale → ⊥) → v ≡ value_at K P i (look h x v).number
  true_book h i Stale v g never = absurd (never refl)
  true_book h i (AsOf n) v g never = g

  pub true_books : TrueBooks K P
  true_books o store cs served i w never =
      let x = (after K o store cs).books (slot_of o i) in
      true_book (after K o store cs).plain.heard i x.mark x.value ((kin o store cs served).rel.base.books i w).0 never

  -- what is shown, written from reach
  abbrev write_by : ℕ → Extent → Bool → Shown V
  write_by i nowhere b = record { sign = signs.Stale; number = 0; book = K.fresh }
  write_by i (upto n) b = record { sign = cond b signs.Current signs.Recovering; number = n; book = value_at K P i n }

  write_look : (h i : ℕ) (x : Mark) (v : V) → GoodBy K P Image honest i v x → look h x v ≡ write_by i (extent_of x) (at_heard h (extent_of x))
  write_look h i Stale v g = ap {B = Shown V} (λ (y : V). record { sign = signs.Stale; number = 0; book = y }) g
  write_look h i (AsOf n) v g = ap {B = Shown V} (λ (y : V). record { sign = cond (eqb n h) signs.Current signs.Recovering; number = n; book = y }) g

  abbrev write : ℕ → Reached → Shown V
  write i x = write_by i x.extent x.all

  module _ (o : Opening) (store : Model V O) (cs : List Call) (served : Served K P o store cs) (i : ℕ) (w : watched o i ≡ true) where
    reach-is : reach_of K o cs i ≡ reached (after K o store cs).plain.heard (extent_of ((after K o store cs).books (slot_of o i)).mark)
    reach-is = let k = (kin o store cs served).rel.base in ap₂ (λ h e. reached h e) k.heard (sym (k.books i w).1)

    shows : read (shown o (after K o store cs) i) ≡ reach_of K o cs i
    shows = let x = (after K o store cs).books (slot_of o i) in read_look (after K o store cs).plain.heard x.mark x.value ∙ sym reach-is

    written : shown o (after K o store cs) i ≡ write i (reach_of K o cs i)
    written = let x = (after K o store cs).books (slot_of o i) in
        write_look (after K o store cs).plain.heard i x.mark x.value ((kin o store cs served).rel.base.books i w).0 ∙ ap (write i) (sym reach-is)

  pub same-reach : SameReach K P
  same-reach o o' store store' cs cs' served served' i w w' = (
    (λ e. sym (shows o store cs served i w) ∙ ap read e ∙ shows o' store' cs' served' i w'),
    (λ e. written o store cs served i w ∙ ap (write i) e ∙ sym (written o' store' cs' served' i w')),
  )

  module _ (o : Opening) where
    run-append : (s : State V O) (xs ys : List Call) → run K o s (xs ++ ys) ≡ run K o (run K o s xs) ys
    run-append s [] ys = refl
    run-append s (x ∷ xs) ys = run-append (step K o s x) xs ys

    fed_append : (s : State V O) (xs ys : List Call) → Fed K P o s (xs ++ ys) → Fed K P o s xs × Fed K P o (run K o s xs) ys
    fed_append s [] ys f = (tt, f)
    fed_append s (x ∷ xs) ys f = let r = fed_append (step K o s x) xs ys f.1 in ((f.0, r.0), r.1)

    takes_now : (s : State V O) (r : Reach) (c : Call) (k : ℕ) → Kin K P Image honest o s r → taken o s.plain c ≡ true → IsPacket c k → TakesNow K o r c k
    takes_now s r (incremental room bytes) k rel t p = (sym (packet_taken K P Image honest o law s r rel room bytes) ∙ t, p)
    takes_now s r join k rel t p = absurd p
    takes_now s r (leave j) k rel t p = absurd p
    takes_now s r (snapshot j room bytes) k rel t p = absurd p
    takes_now s r (question i) k rel t p = absurd p

    takes_in : (cs : List Call) (s : State V O) (r : Reach) (k : ℕ) → Kin K P Image honest o s r → Fed K P o s cs → TakenIn K P o s cs k → TakesIn K o r cs k
    takes_in [] s r k rel fed t = t
    takes_in (c ∷ cs) s r k rel fed t = elim t [
      | inl x ↦ inl (takes_now s r c k rel x.0 x.1)
      | inr later ↦ inr (takes_in cs (step K o s c) (reach_step K o r c) k (step_ok K P Image honest o law s r rel c fed.0) fed.1 later)
    ]

    -- an adoption is of a snapshot packet that is taken
    adopted_mid : (c : Call) (s : State V O) (r : Reach) (i n : ℕ) → Kin K P Image honest o s r → Settled r → taken o s.plain c ≡ true → (taken o s.plain c ≡ true → Brings P o c)
        → AdoptsBy K P o s c i n → Midway r (reach_step K o r c) i n
    adopted_mid (incremental room bytes) s r i n rel st t fed l = absurd l
    adopted_mid join s r i n rel st t fed l = absurd l
    adopted_mid (leave j) s r i n rel st t fed l = absurd l
    adopted_mid (snapshot j room bytes) s r i n rel st t fed l =
        let u : takes_snapshot o r j room bytes ≡ true = sym (snapshot-taken K P Image honest o law s r rel j room bytes) ∙ t in
        rw u (snapshot_mid K o bytes r st i n (subst (λ (x : List Adoption). Logged x i n) (adoptions-same K P Image honest o law s r rel j room bytes (fed t)) l))
    adopted_mid (question q) s r i n rel st t fed l = absurd l

    look_current : (h : ℕ) (x : Mark) → extent_of x ≡ upto h → (standing h x).sign ≡ signs.Current
    look_current h Stale e = let z : ◌≡◌ {A = ℕ} 0 1 = cc in absurd (omega arith)
    look_current h (AsOf n) e = let u : n ≡ h = cc in rw (eq-eqb n h u)

    since_then : (s : State V O) (r : Reach) (c : Call) (since : List Call) → Kin K P Image honest o s r → Settled r → Fed K P o s (c ∷ since) → (i n : ℕ) → watched o i ≡ true → Adopts K P o s c i n
        → ((k : ℕ) → n < k → k ≤ (run K o s (c ∷ since)).plain.heard → (is_there (s.plain.shelf k) ≡ true) ⊎ TakenIn K P o (step K o s c) since k)
        → (shown o (run K o s (c ∷ since)) i).sign ≡ signs.Current
    since_then s r c since rel st fed i n w ad all =
        look_current _ _ ((at_end.rel.base.books i w).1 ∙ comes K o r (reach_step K o r c) since i n (step-moves K o c r st).settled mid all' ∙ ap upto at_end.rel.base.heard)
      where
        next : Kin K P Image honest o (step K o s c) (reach_step K o r c)
        next = step_ok K P Image honest o law s r rel c fed.0

        at_end : Kin K P Image honest o (run K o s (c ∷ since)) (reach_run K o (reach_step K o r c) since)
        at_end = run_ok K P Image honest o law since (step K o s c) (reach_step K o r c) next fed.1

        mid : Midway r (reach_step K o r c) i n
        mid = adopted_mid c s r i n rel st ad.0 fed.0 ad.1

        all' : (k : ℕ) → n < k → k ≤ (reach_run K o (reach_step K o r c) since).heard → (r.there k ≡ true) ⊎ TakesIn K o (reach_step K o r c) since k
        all' k lt le = elim (all k lt (subst (λ h. k ≤ h) at_end.rel.base.heard le)) [
          | inl u ↦ inl (rel.rel.base.there k ∙ u)
          | inr t ↦ inr (takes_in since (step K o s c) (reach_step K o r c) k next fed.1 t)
        ]

  pub comes-current : ComesCurrent K P
  comes-current o store cs c since served i n w ad all =
      let f = fed_append o (opened K o store) cs (c ∷ since) served.1 in
      let e = run-append o (opened K o store) cs (c ∷ since) in
      subst (λ (t : State V O). (shown o t i).sign ≡ signs.Current) (sym e)
      (since_then o (after K o store cs) (reach_run K o (untouched o) cs) c since (kin o store cs (served.0, f.0)) (run_settled K o cs (untouched o) (untouched-settled o)) f.1 i n w ad
      (λ k lt le. all k lt (subst (λ (t : State V O). k ≤ t.plain.heard) (sym e) le)))

pub recovers : {V O : Type 0} (K : Kind V O) (Image : HeaderFields → List Part → V → Type 0) → ImageLaw K Image → Recovery K Image
recovers K Image law P honest = (true_books K Image law P honest, same-reach K Image law P honest, comes-current K Image law P honest)
