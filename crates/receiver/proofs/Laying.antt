-- One packet more on the shelf, and old numbers dropped.
use Rattle.std.proofs.Common.{◌≡◌, ℕ, ◌+◌, ◌-◌, ◌*◌, ◌%◌, ◌<◌, ◌≤◌, max, Bool, true, false, cond, leb, List, length, get_or, take, drop, set, sym, refl, ap, ◌∙◌, subst, ap₂, ⊎_elim, arith}
use borrow.Rule.Slice.PartMut.{put_mid}
use Rattle.std.proofs.lemmas.List.{length-map, get_or-set_same, get_or-set_other}
use Rattle.std.proofs.lemmas.Slice.{between-put_mid, between_is, take-put_mid_below, drop-put_mid}
use Rattle.std.proofs.lemmas.Bool.{eq-eqb, ne_eqb, cases_eq, cases_lt}
use Rattle.std.proofs.lemmas.Bool.Decides.{nat_tests}
use Rattle.layout.specs.declared.sheet.Sheet.{Sheet}
use Rattle.store.specs.Kind.{Kind, Model}
use Rattle.packet.specs.Rules.{packet_head}
use Rattle.recovery.specs.Shelf.{Found, absent, shelved, part_of, reading, shelf_of, laid, written}
use Rattle.recovery.specs.State.{State}
use Rattle.recovery.specs.Incremental.{settled, received}
use Rattle.recovery.specs.Updates.{hearing, with_plain}
use Rattle.settling.specs.declared.places.Places.{Places}
use Rattle.receiver.specs.declared.subscription.Subscription.{Subscription}
use Rattle.receiver.specs.declared.plain.Plain.{Plain}
use Rattle.settling.specs.Placed.{numbers_of, sizes_of}
use Rattle.receiver.specs.Standings.{opening_of, plain_of, state_in}

module _ (s bs : List ℕ) (b : ℕ) (fits : b + length bs ≤ length s) where
  here : take (length bs) (drop b (put_mid b (length bs) s bs)) ≡ bs
  here = let e : length bs ≡ b + length bs - b = omega arith in ap (λ k. take k (drop b (put_mid b (length bs) s bs))) e ∙ between-put_mid b (length bs) s bs (b + length bs) (omega arith) e

  above : (a : ℕ) → b + length bs ≤ a → drop a (put_mid b (length bs) s bs) ≡ drop a s
  above a l = drop-put_mid b (length bs) s bs a l (omega arith) refl

  below : (a l : ℕ) → a + l ≤ b → take l (drop a (put_mid b (length bs) s bs)) ≡ take l (drop a s)
  below a l h = let e : l ≡ a + l - a = omega arith in
      ap (λ k. take k (drop a (put_mid b (length bs) s bs))) e ∙ between_is (put_mid b (length bs) s bs) a (a + l) ∙ ap (drop a) (take-put_mid_below b (length bs) s bs (a + l) h (omega arith))
      ∙ sym (between_is s a (a + l)) ∙ ap (λ k. take k (drop a s)) (sym e)

abbrev found : Sheet → Places → List ℕ → ℕ → Found
found sheet t bytes k = shelf_of sheet t.heard (numbers_of t.at) (sizes_of t.at) bytes k

module _ (sheet : Sheet) (t t' : Places) (s bs : List ℕ) (q : ℕ) (long : 44800 ≤ length s) (small : length bs ≤ 1400)
    (h : t'.heard ≡ max t.heard q) (ns : (numbers_of t'.at) ≡ set (numbers_of t.at) (q % 32) q) (ls : (sizes_of t'.at) ≡ set (sizes_of t.at) (q % 32) (length bs)) where
  pub part_here : part_of (sizes_of t'.at) (written s q bs) q ≡ bs
  part_here = let w = length-map t.at (λ p. p.size) ∙ t.places in let e = ap (λ l. get_or l (q % 32) 0) ls ∙ get_or-set_same (sizes_of t.at) (q % 32) (length bs) 0 (omega arith) in
      ap (λ k. take k (drop (q % 32 * 1400) (written s q bs))) e ∙ here s bs (q % 32 * 1400) (omega arith)

  part_else : (k : ℕ) → (k % 32 ≡ q % 32 → ⊥) → part_of (sizes_of t'.at) (written s q bs) k ≡ part_of (sizes_of t.at) s k
  part_else k d = let e = ap (λ l. get_or l (k % 32) 0) ls ∙ get_or-set_other (sizes_of t.at) (q % 32) (k % 32) (length bs) 0 d in let f = t.fit (k % 32) in
      ap (λ m. take m (drop (k % 32 * 1400) (written s q bs))) e ∙ ⊎_elim
      (λ (l : k % 32 < q % 32). below s bs (q % 32 * 1400) (omega arith) (k % 32 * 1400) (get_or (sizes_of t.at) (k % 32) 0) (omega arith))
      (λ (l : q % 32 ≤ k % 32). ap (take (get_or (sizes_of t.at) (k % 32) 0)) (above s bs (q % 32 * 1400) (omega arith) (k % 32 * 1400) (omega arith)))
      (cases_lt (k % 32) (q % 32))

  -- the shelf with packet q, which is not late
  lays : 0 < q → t.heard < q + 32 → (k : ℕ) → found sheet t' (written s q bs) k ≡ laid t'.heard q (reading sheet bs) (found sheet t s) k
  lays pos late k = ⊎_elim
      (λ (e : k ≡ q).
      let w = length-map t.at (λ p. p.number) ∙ t.places in let m = ap (λ l. get_or l (q % 32) 0) ns ∙ get_or-set_same (numbers_of t.at) (q % 32) q 0 (omega arith) in
      let on : shelved t'.heard (numbers_of t'.at) q ≡ true = grind (arith, nat_tests) in
      subst (λ x. found sheet t' (written s q bs) x ≡ laid t'.heard q (reading sheet bs) (found sheet t s) x) (sym e) (rw (on, part_here, eq-eqb q q refl)))
      (λ (d : k ≡ q → ⊥). rw (ne_eqb k q d) (⊎_elim
      (λ (e : k % 32 ≡ q % 32).
      let w = length-map t.at (λ p. p.number) ∙ t.places in let m = ap (λ l. get_or l (k % 32) 0) ns ∙ ap (λ j. get_or (set (numbers_of t.at) (q % 32) q) j 0) e ∙ get_or-set_same (numbers_of t.at) (q % 32) q 0 (omega arith) in
      let u = t.low (k % 32) in
      let off : shelved t'.heard (numbers_of t'.at) k ≡ false = grind (arith, nat_tests) in
      rw off (gone_by k (leb (k + 32) t'.heard) refl (λ l. let far : k ≡ q → ⊥ = d in grind (arith, nat_tests))))
      (λ (e : k % 32 ≡ q % 32 → ⊥).
      let m = ap (λ l. get_or l (k % 32) 0) ns ∙ get_or-set_other (numbers_of t.at) (q % 32) (k % 32) q 0 e in
      let p = part_else k e in
      rw p (grind (arith, nat_tests)))
      (cases_eq (k % 32) (q % 32))))
      (cases_eq k q)
    where
      gone_by : (k : ℕ) (b : Bool) → leb (k + 32) t'.heard ≡ b → (t'.heard < k + 32 → shelved t.heard (numbers_of t.at) k ≡ false) → absent ≡ cond b absent (found sheet t s k)
      gone_by k true e f = refl
      gone_by k false e f = rw (f (grind (arith, nat_tests)))

  abbrev on_shelf : ℕ → ℕ → Found
  on_shelf n k = laid n q (reading sheet bs) (found sheet t s) k

  pub lays_all : 0 < q → t.heard < q + 32 → (λ k. found sheet t' (written s q bs) k) ≡ on_shelf (max t.heard q)
  lays_all pos late = λ j k. (lays pos late k ∙ ap (λ n. on_shelf n k) h) j

module _ {V O : Type 0} (K : Kind V O) (u : Subscription) (p : Plain) (m : Model V O) (s s' bs : List ℕ) (q : ℕ) (t' : Places) where
  -- a packet is laid on the shelf, and all settle
  pub receives : (x : State V O) → 44800 ≤ length s → length bs ≤ 1400 → 0 < q → p.places.heard < q + 32 → q ≡ (packet_head bs).number → s' ≡ written s q bs
      → t'.heard ≡ max p.places.heard q → (numbers_of t'.at) ≡ set (numbers_of p.places.at) (q % 32) q → (sizes_of t'.at) ≡ set (sizes_of p.places.at) (q % 32) (length bs)
      → x ≡ settled K (opening_of u) (state_in K u (record { places = t'; marks = p.marks; joined = p.joined; followed = p.followed; pending = p.pending }) m s')
      → x ≡ received K (opening_of u) bs (state_in K u p m s)
  receives x long small pos late is wr h ns ls e =
      let t = p.places in let S = state_in K u p m s in
      let now-is : plain_of u.sheet (record { places = t'; marks = p.marks; joined = p.joined; followed = p.followed; pending = p.pending }) (written s q bs)
      ≡ hearing (max t.heard q) (laid (max t.heard q) q (reading u.sheet bs) (found u.sheet t s)) S.plain
      = ap₂ (λ a b. record { heard = a; shelf = b; joined = p.joined; followed = p.followed; pending = p.pending }) h (lays_all u.sheet t t' s bs q long small h ns ls pos late) in
      e ∙ ap (λ z. settled K (opening_of u) (state_in K u (record { places = t'; marks = p.marks; joined = p.joined; followed = p.followed; pending = p.pending }) m z)) wr
      ∙ ap (λ z. settled K (opening_of u) (with_plain z S)) now-is
      ∙ ap (λ n. settled K (opening_of u) (with_plain (hearing (max t.heard n) (laid (max t.heard n) n (reading u.sheet bs) (found u.sheet t s)) S.plain) S)) is
