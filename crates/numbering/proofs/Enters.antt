-- What entering a number does to spans: a change behind the spans that stand clear of the number.
use Rattle.std.proofs.Common.{◌≡◌, ℕ, suc, ◌+◌, ◌<◌, ◌≤◌, Bool, true, false, ◌||◌, eqb, List, [], ◌∷◌, ◌++◌, length, take, drop, set, sym, refl, ap, ◌∙◌, subst, arith}
use Rattle.std.specs.List.{remove}
use Rattle.std.proofs.lemmas.Bool.Decides.{nat_tests}
use Rattle.std.proofs.lemmas.List.{take-append-drop, drop_all, take_more_set, append_assoc, drop-set-lt}
use Rattle.numbering.specs.declared.span.Span.{Span}
use Rattle.std.specs.Bool.{if◌then◌else◌}
use Rattle.numbering.specs.Spans.{inside, held, Rises, rising, Clear, Entered}

alone : (s : Span) (n m : ℕ) → s.low ≡ n → s.high ≡ n → inside s m ≡ eqb m n
alone s n m l h = grind (arith, nat_tests)

-- the later spans take `n`, wherever from `b` up to `n` they rise from
abbrev pub Takes : ℕ → List Span → List Span → Type 0
Takes n before after =
    (b : ℕ) → b ≤ n → Rises b before → Rises b after × ((m : ℕ) → held after m ≡ (eqb m n || held before m))

or_turn : (x y z w : Bool) → z ≡ (y || w) → (x || z) ≡ (y || (x || w))
or_turn true true z w e = refl
or_turn true false z w e = refl
or_turn false true z w e = e
or_turn false false z w e = e

pub behind-clear :
    (front before after : List Span) (b n : ℕ) → b ≤ n → Clear n front → Rises b (front ++ before) → Takes n before after
    → Rises b (front ++ after) × ((m : ℕ) → held (front ++ after) m ≡ (eqb m n || held (front ++ before) m))
behind-clear [] before after b n le clear rises takes = takes b le rises
behind-clear (s ∷ ss) before after b n le clear rises takes =
    let rest = behind-clear ss before after (s.high + 2) n clear.0 clear.1 rises.2 takes in
    ((rises.0, rises.1, rest.0), λ m. or_turn (inside s m) (eqb m n) (held (ss ++ after) m) (held (ss ++ before) m) (rest.1 m))

-- the same of a list that is cut at `p`
pub entered_at :
    (xs ys after : List Span) (p n : ℕ) → Rises 0 xs → Clear n (take p xs) → Takes n (drop p xs) after → ys ≡ take p xs ++ after
    → Entered n xs ys
entered_at xs ys after p n rises clear takes e =
    let cut = take-append-drop p xs in
    let R : List Span → Type 0 = λ l. Rises 0 l in
    let E : List Span → Type 0 = λ l. Entered n l ys in
    let F : List Span → Type 0 = λ l. Entered n (take p xs ++ drop p xs) l in
    subst E cut (subst F (sym e) (behind-clear (take p xs) (drop p xs) after 0 n (omega arith) clear (subst R (sym cut) rises) takes))

-- the next span reaches one lower
pub takes-lower :
    (n : ℕ) (s t : Span) (ss : List Span) → s.low ≡ n → s.high ≡ t.high → n + 1 ≡ t.low → Takes n (t ∷ ss) (s ∷ ss)
takes-lower n s t ss l h lt b le rises =
    let R : ℕ → Type 0 = λ k. Rises (k + 2) ss in
    ((omega arith, omega (arith, rises.1), subst R (sym h) rises.2), λ m. let r1 = rises.1 in grind (arith, nat_tests))

-- what starts above a number starts above a lower one
pub rises_from : (a b : ℕ) (ss : List Span) → a ≤ b → Rises b ss → Rises a ss
rises_from a b [] le r = tt
rises_from a b (s ∷ ss) le r = (omega (arith, r.0), r.1, r.2)

abbrev pub Above : ℕ → List Span → Type 0
Above n [] = Unit {0}
Above n (s ∷ ss) = n + 2 ≤ s.low

above_rises : (n a b : ℕ) (ss : List Span) → n ≡ a → Above n ss → Rises b ss → Rises (a + 2) ss
above_rises n a b [] e up r = tt
above_rises n a b (s ∷ ss) e up r = (omega arith, r.1, r.2)

-- a span of its own, and the next, if there is one, stands apart
pub takes_alone : (n : ℕ) (s : Span) (ss : List Span) → s.low ≡ n → s.high ≡ n → Above n ss → Takes n ss (s ∷ ss)
takes_alone n s ss l h up b le rises =
    ((omega arith, omega arith, above_rises n s.high b ss (sym h) up rises), λ m. ap (λ t. t || held ss m) (alone s n m l h))

-- the span reaches one higher, and the next, if there is one, still stands apart
pub takes-higher :
    (n : ℕ) (s t : Span) (ss : List Span) → s.low ≡ t.low → s.high ≡ n → t.high + 1 ≡ n → Above n ss → Takes n (t ∷ ss) (s ∷ ss)
takes-higher n s t ss l h e up b le rises =
    ((omega (arith, rises.0), omega (arith, rises.1), above_rises n s.high (t.high + 2) ss (sym h) up rises.2), λ m. let r1 = rises.1 in grind (arith, nat_tests))

-- the span reaches up to the next, and both become one
pub takes-between :
    (n : ℕ) (s t u : Span) (ss : List Span) → s.low ≡ t.low → s.high ≡ u.high → t.high + 1 ≡ n → n + 1 ≡ u.low
    → Takes n (t ∷ u ∷ ss) (s ∷ ss)
takes-between n s t u ss l h e f b le rises =
    let R : ℕ → Type 0 = λ k. Rises (k + 2) ss in
    let r1 = rises.1 in
    let r2 = rises.2.1 in
    ((omega (arith, rises.0), omega arith, subst R (sym h) rises.2.2), λ m. grind (arith, nat_tests))

same_drop : (xs : List Span) (i j : ℕ) → i ≡ j → drop i xs ≡ drop j xs
same_drop xs i j e = ap (λ k. drop k xs) e

-- one span for two: what a write and a removal leave
pub two_for_one : (xs : List Span) (p : ℕ) (s : Span) → p + 1 < length xs → remove (set xs p s) (p + 1) ≡ take p xs ++ s ∷ drop (p + 2) xs
two_for_one xs p s lt =
    ap (λ l. l ++ drop (suc (p + 1)) (set xs p s)) (take_more_set xs p s (omega arith))
    ∙ (append_assoc (take p xs) (s ∷ []) (drop (suc (p + 1)) (set xs p s))
    ∙ ap (λ l. take p xs ++ s ∷ l) (drop-set-lt (suc (p + 1)) xs p s (omega arith) ∙ same_drop xs (suc (p + 1)) (p + 2) (omega arith)))

-- the span at `p`, which ends right below `n`, and the next, which starts right above, become one
pub entered-between :
    (xs ys : List Span) (p n : ℕ) (s t : Span) → Rises 0 xs → Clear n (take p xs) → drop p xs ≡ s ∷ drop (p + 1) xs
    → drop (p + 1) xs ≡ t ∷ drop (p + 1 + 1) xs → s.high + 1 ≡ n → n + 1 ≡ t.low
    → ys ≡ take p xs ++ record { low = s.low; high = t.high } ∷ drop (p + 2) xs → Entered n xs ys
entered-between xs ys p n s t rises clear e f touches next is =
    let rest = drop (p + 2) xs in
    let whole : s ∷ t ∷ rest ≡ drop p xs = sym (e ∙ ap (λ l. s ∷ l) (f ∙ ap (λ l. t ∷ l) (same_drop xs (p + 1 + 1) (p + 2) (omega arith)))) in
    let made : Span = record { low = s.low; high = t.high } in
    let K : List Span → Type 0 = λ l. Takes n l (made ∷ rest) in
    entered_at xs ys (made ∷ rest) p n rises clear (subst K whole (takes-between n made s t rest refl refl touches next)) is

-- the span at `p`, which ends right below `n`, reaches to `n`
pub entered-higher :
    (xs ys : List Span) (p n : ℕ) (s : Span) → Rises 0 xs → Clear n (take p xs) → drop p xs ≡ s ∷ drop (p + 1) xs
    → s.high + 1 ≡ n → Above n (drop (p + 1) xs) → ys ≡ take p xs ++ record { low = s.low; high = n } ∷ drop (p + 1) xs → Entered n xs ys
entered-higher xs ys p n s rises clear e touches up is =
    let rest = drop (p + 1) xs in
    let made : Span = record { low = s.low; high = n } in
    let K : List Span → Type 0 = λ l. Takes n l (made ∷ rest) in
    entered_at xs ys (made ∷ rest) p n rises clear (subst K (sym e) (takes-higher n made s rest refl refl touches up)) is

-- the span at `p`, which starts right above `n`, reaches down to `n`
pub entered-lower :
    (xs ys : List Span) (p n : ℕ) (s : Span) → Rises 0 xs → Clear n (take p xs) → drop p xs ≡ s ∷ drop (p + 1) xs
    → n + 1 ≡ s.low → ys ≡ take p xs ++ record { low = n; high = s.high } ∷ drop (p + 1) xs → Entered n xs ys
entered-lower xs ys p n s rises clear e touches is =
    let rest = drop (p + 1) xs in
    let made : Span = record { low = n; high = s.high } in
    let K : List Span → Type 0 = λ l. Takes n l (made ∷ rest) in
    entered_at xs ys (made ∷ rest) p n rises clear (subst K (sym e) (takes-lower n made s rest refl refl touches)) is

-- a span of its own
pub entered-alone :
    (xs ys : List Span) (p n : ℕ) → Rises 0 xs → Clear n (take p xs) → Above n (drop p xs)
    → ys ≡ take p xs ++ record { low = n; high = n } ∷ drop p xs → Entered n xs ys
entered-alone xs ys p n rises clear up is =
    let made : Span = record { low = n; high = n } in
    entered_at xs ys (made ∷ drop p xs) p n rises clear (takes_alone n made (drop p xs) refl refl up) is

pub above-none : (n p : ℕ) (xs : List Span) → length xs ≤ p → Above n (drop p xs)
above-none n p xs le = let K : List Span → Type 0 = λ l. Above n l in subst K (sym (drop_all p xs le)) tt

pub above-here : (n p : ℕ) (s : Span) (xs rest : List Span) → drop p xs ≡ s ∷ rest → n + 2 ≤ s.low → Above n (drop p xs)
above-here n p s xs rest e le = let K : List Span → Type 0 = λ l. Above n l in subst K (sym e) le

-- of two lists of spans that rise, either does
pub rising_either : (b : Bool) (xs ys : List Span) → rising 0 xs ≡ true → rising 0 ys ≡ true → rising 0 (if b then xs else ys) ≡ true
rising_either true xs ys p q = p
rising_either false xs ys p q = q
