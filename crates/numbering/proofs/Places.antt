-- Where a number stands among rising spans, and what it is to their numbers by its place.
use Rattle.std.proofs.Common.{◌≡◌, ℕ, zero, suc, ◌+◌, ◌-◌, ◌<◌, ◌≤◌, Bool, true, false, ◌&&◌, ◌||◌, leb, ltb, ◌⊎◌, List, [], ◌∷◌, ◌++◌, length, get_or, take, drop, sym, refl, ap, ◌∙◌, subst, ⊎_elim, arith}
use Rattle.std.proofs.lemmas.Bool.Decides.{nat_tests}
use Rattle.std.proofs.lemmas.Bool.{and_parts, and_from, le-leb, leb-true, lt-ltb, ltb-true, ltb-false, cases_lt, both_ways, cases_Bool, or_left, or_right, or_from}
use Rattle.std.proofs.lemmas.List.{take-append-drop, drop_more, drop_all}
use Rattle.std.specs.List.{AllWithin}
use Rattle.std.specs.List.Sorted.{IsPartitionedBy}
use Rattle.numbering.specs.declared.span.Span.{Span}
use Rattle.numbering.specs.Spans.{inside, held, Rises, rising, Clear, Near}
use Rattle.numbering.specs.declared.seen.Seen.{Seen}
use Rattle.numbering.specs.declared.seen.Seen.TheVariants.{New, Repeated, Late}
use Rattle.numbering.specs.Answer.{Answer}

pub rises_since : (b : ℕ) (ss : List Span) → rising b ss ≡ true → Rises b ss
rises_since b [] e = tt
rises_since b (s ∷ ss) e =
    let first = and_parts (leb b s.low) (leb s.low s.high && rising (s.high + 2) ss) e in
    let second = and_parts (leb s.low s.high) (rising (s.high + 2) ss) first.1 in
    (leb-true b s.low first.0, leb-true s.low s.high second.0, rises_since (s.high + 2) ss second.1)

pub rising-since : (b : ℕ) (ss : List Span) → Rises b ss → rising b ss ≡ true
rising-since b [] r = refl
rising-since b (s ∷ ss) r =
    and_from (leb b s.low) (leb s.low s.high && rising (s.high + 2) ss) (le-leb b s.low r.0)
    (and_from (leb s.low s.high) (rising (s.high + 2) ss) (le-leb s.low s.high r.1) (rising-since (s.high + 2) ss r.2))

-- each span starts no lower than where they rise from
pub rises_at : (b i : ℕ) (d : Span) (ss : List Span) → Rises b ss → i < length ss → b ≤ (get_or ss i d).high
rises_at b i d [] r lt = absurd (omega arith)
rises_at b zero d (s ∷ ss) r lt = omega (arith, r.0, r.1)
rises_at b (suc i) d (s ∷ ss) r lt = omega (arith, r.0, r.1, rises_at (s.high + 2) i d ss r.2 (omega arith))

clear_to : (b i n : ℕ) (d : Span) (ss : List Span) → Rises b ss → i < length ss → (get_or ss i d).high + 2 ≤ n → Clear n (take (suc i) ss)
clear_to b i n d [] r lt h = absurd (omega arith)
clear_to b zero n d (s ∷ ss) r lt h = (h, tt)
clear_to b (suc i) n d (s ∷ ss) r lt h =
    (omega (arith, rises_at (s.high + 2) i d ss r.2 (omega arith)), clear_to (s.high + 2) i n d ss r.2 (omega arith) h)

-- where the last span stands clear of a number, each does
pub clear-by-last :
    (n k : ℕ) (s : Span) (ss : List Span) → Rises 0 ss → 0 < length ss → s ≡ get_or ss (length ss - 1) s → s.high + 2 ≤ n → k ≡ length ss
    → Clear n (take k ss)
clear-by-last n k s ss rises lt e above all =
    let C : ℕ → Type 0 = λ j. Clear n (take j ss) in
    let A : Span → Type 0 = λ x. x.high + 2 ≤ n in
    let whole : suc (length ss - 1) ≡ k = omega (arith, lt, all) in
    subst C whole (clear_to 0 (length ss - 1) n s ss rises (omega (arith, lt)) (subst A e above))

pub near_at : (i n : ℕ) (d : Span) (ss : List Span) → i < length ss → n ≤ (get_or ss i d).high + 1 → Near n (drop i ss)
near_at i n d [] lt h = absurd (omega arith)
near_at zero n d (s ∷ ss) lt h = h
near_at (suc i) n d (s ∷ ss) lt h = near_at i n d ss (omega arith) h

pub near-end : (i n : ℕ) (ss : List Span) → i ≡ length ss → Near n (drop i ss)
near-end i n [] e = rw e tt
near-end zero n (s ∷ ss) e = absurd (omega arith)
near-end (suc i) n (s ∷ ss) e = near-end i n ss (omega arith)

-- whether a span ends so far below a number that the number does not touch it
abbrev pub far : ℕ → Span → Bool
far n s = ltb 1 (n - s.high)

high_rises : (b i j : ℕ) (d : Span) (ss : List Span) → Rises b ss → i ≤ j → j < length ss → (get_or ss i d).high ≤ (get_or ss j d).high
high_rises b i j d [] r le lt = absurd (omega arith)
high_rises b zero zero d (s ∷ ss) r le lt = omega arith
high_rises b zero (suc j) d (s ∷ ss) r le lt = omega (arith, rises_at (s.high + 2) j d ss r.2 (omega arith))
high_rises b (suc i) zero d (s ∷ ss) r le lt = absurd (omega arith)
high_rises b (suc i) (suc j) d (s ∷ ss) r le lt = high_rises (s.high + 2) i j d ss r.2 (omega arith) (omega arith)

-- rising spans are parted by it
pub far_first : (n : ℕ) (ss : List Span) → Rises 0 ss → IsPartitionedBy (far n) ss
far_first n ss r i j d le lt e =
    let up = high_rises 0 i j d ss r le lt in
    let above = ltb-true 1 (n - (get_or ss j d).high) e in
    lt-ltb 1 (n - (get_or ss i d).high) (omega (arith, up, above))

pub clear_before : (i n : ℕ) (ss : List Span) → Rises 0 ss → i ≤ length ss → AllWithin (λ s. far n s ≡ true) ss 0 i → Clear n (take i ss)
clear_before zero n [] r le all = tt
clear_before zero n (s ∷ ss) r le all = tt
clear_before (suc i) n ss r le all =
    let d : Span = record { low = 0; high = 0 } in
    let above = ltb-true 1 (n - (get_or ss i d).high) (all i d (omega arith) (omega arith)) in
    clear_to 0 i n d ss r (omega arith) (omega (arith, above))

pub near_from : (i n : ℕ) (ss : List Span) → i ≤ length ss → AllWithin (λ s. far n s ≡ false) ss i (length ss) → Near n (drop i ss)
near_from i n ss le all =
    let d : Span = record { low = 0; high = 0 } in
    ⊎_elim
    (λ (h : i < length ss). let close = ltb-false 1 (n - (get_or ss i d).high) (all i d (omega arith) h) in near_at i n d ss h (omega (arith, close)))
    (λ (h : length ss ≤ i). near-end i n ss (omega arith))
    (cases_lt i (length ss))

-- what stands clear of a number has none from it on
same_above : (front back : List Span) (n m : ℕ) → Clear n front → n ≤ m → held (front ++ back) m ≡ held back m
same_above [] back n m clear le = refl
same_above (s ∷ ss) back n m clear le =
    let out : inside s m ≡ false = let c = clear.0 in grind (arith, nat_tests) in
    ap (λ b. b || held (ss ++ back) m) out ∙ same_above ss back n m clear.1 le

pub held-behind : (p n m : ℕ) (xs back : List Span) → Clear n (take p xs) → drop p xs ≡ back → n ≤ m → held xs m ≡ held back m
held-behind p n m xs back clear e le =
    ap (λ l. held l m) (sym (take-append-drop p xs)) ∙ (same_above (take p xs) (drop p xs) n m clear le ∙ ap (λ l. held l m) e)

pub rises_drop : (b p : ℕ) (xs : List Span) → Rises b xs → (c : ℕ) × Rises c (drop p xs)
rises_drop b zero xs r = (b, r)
rises_drop b (suc p) [] r = (b, tt)
rises_drop b (suc p) (s ∷ ss) r = rises_drop (s.high + 2) p ss r.2

-- spans that rise from above a number do not have it
pub none_below : (b m : ℕ) (ss : List Span) → Rises b ss → m < b → held ss m ≡ false
none_below b m [] r lt = refl
none_below b m (s ∷ ss) r lt =
    let rest = none_below (s.high + 2) m ss r.2 (omega (arith, r.0, r.1)) in
    let low = r.0 in
    let out : inside s m ≡ false = grind (arith, nat_tests) in
    ap (λ b. b || held ss m) out ∙ rest

-- no number from `n` on came, so every one that came is lower
pub below_all : (p n : ℕ) (xs back : List Span) → Clear n (take p xs) → drop p xs ≡ back → ((m : ℕ) → n ≤ m → held back m ≡ false) → (m : ℕ) → held xs m ≡ true → m < n
below_all p n xs back clear e none m in-it =
    ⊎_elim (λ (h : m < n). h)
    (λ (h : n ≤ m). absurd (both_ways (held xs m) (held-behind p n m xs back clear e h ∙ none m h) in-it))
    (cases_lt m n)

-- what stands from a place on, by the element there
pub here-is : (xs : List Span) (i n : ℕ) (x : Span) → x ≡ get_or xs i x → i < n → n ≡ length xs → drop i xs ≡ x ∷ drop (i + 1) xs
here-is xs i n x e lt len = let h : i < length xs = omega arith in drop_more xs i x h ∙ ap (λ y. y ∷ drop (i + 1) xs) (sym e)

rises_here : (xs rest : List Span) (p : ℕ) (s : Span) → Rises 0 xs → drop p xs ≡ s ∷ rest → (s.low ≤ s.high) × Rises (s.high + 2) rest
rises_here xs rest p s rises e =
    let found = rises_drop 0 p xs rises in
    let R : List Span → Type 0 = λ l. Rises found.0 l in
    let r = subst R e found.1 in
    (r.1, r.2)

-- the next span starts above the one before
pub next_above : (xs : List Span) (p : ℕ) (s t : Span) → Rises 0 xs → drop p xs ≡ s ∷ drop (p + 1) xs → drop (p + 1) xs ≡ t ∷ drop (p + 1 + 1) xs → s.high + 2 ≤ t.low
next_above xs p s t rises e f =
    let R : List Span → Type 0 = λ l. Rises (s.high + 2) l in
    (subst R f (rises_here xs (drop (p + 1) xs) p s rises e).1).0

-- below the span at its place: late, since that span's numbers came
pub late_below :
    (xs : List Span) (p n : ℕ) (s : Span) → Rises 0 xs → Clear n (take p xs) → drop p xs ≡ s ∷ drop (p + 1) xs → n < s.low
    → (held xs n ≡ false) × ((m : ℕ) × (n < m) × (held xs m ≡ true))
late_below xs p n s rises clear e lt =
    let r = rises_here xs (drop (p + 1) xs) p s rises e in
    let low = r.0 in
    let back : List Span = s ∷ drop (p + 1) xs in
    let out : held back n ≡ false = none_below s.low n back (omega arith, r.0, r.1) lt in
    let in-s : inside s s.high ≡ true = grind (arith, nat_tests) in
    let have : held back s.high ≡ true = or_left (inside s s.high) (held (drop (p + 1) xs) s.high) in-s in
    (held-behind p n n xs back clear e (omega arith) ∙ out, (s.high, omega arith, held-behind p n s.high xs back clear e (omega arith) ∙ have))

-- in the span at its place
pub repeated-in :
    (xs : List Span) (p n : ℕ) (s : Span) → Clear n (take p xs) → drop p xs ≡ s ∷ drop (p + 1) xs → s.low ≤ n → n ≤ s.high → held xs n ≡ true
repeated-in xs p n s clear e low high =
    let in-s : inside s n ≡ true = grind (arith, nat_tests) in
    held-behind p n n xs (s ∷ drop (p + 1) xs) clear e (omega arith) ∙ or_left (inside s n) (held (drop (p + 1) xs) n) in-s

-- above the span at its place, which is the last: new
pub new-above :
    (xs : List Span) (p n : ℕ) (s : Span) → Clear n (take p xs) → drop p xs ≡ s ∷ drop (p + 1) xs → p + 1 ≡ length xs → s.high < n
    → (m : ℕ) → held xs m ≡ true → m < n
new-above xs p n s clear e last high =
    let none : drop (p + 1) xs ≡ [] = drop_all (p + 1) xs (omega arith) in
    below_all p n xs (s ∷ []) clear (e ∙ ap (λ l. s ∷ l) none) (λ m le. grind (arith, nat_tests))

-- above the span at its place, and below the next one: late
pub late-between :
    (xs : List Span) (p n : ℕ) (s t : Span) → Rises 0 xs → Clear n (take p xs) → drop p xs ≡ s ∷ drop (p + 1) xs
    → drop (p + 1) xs ≡ t ∷ drop (p + 1 + 1) xs → s.high < n → n ≤ s.high + 1
    → (held xs n ≡ false) × ((m : ℕ) × (n < m) × (held xs m ≡ true))
late-between xs p n s t rises clear e f high near =
    let r = rises_here xs (drop (p + 1) xs) p s rises e in
    let rest : List Span = drop (p + 1) xs in
    let out-s : inside s n ≡ false = grind (arith, nat_tests) in
    let out : held (s ∷ rest) n ≡ false = or_from (inside s n) (held rest n) out-s (none_below (s.high + 2) n rest r.1 (omega arith)) in
    let R : List Span → Type 0 = λ l. Rises (s.high + 2) l in
    let up = subst R f r.1 in
    let a = up.0 in
    let b = up.1 in
    let in-t : inside t t.high ≡ true = grind (arith, nat_tests) in
    let have-t : held rest t.high ≡ true = ap (λ l. held l t.high) f ∙ or_left (inside t t.high) (held (drop (p + 1 + 1) xs) t.high) in-t in
    let have : held (s ∷ rest) t.high ≡ true = or_right (inside s t.high) (held rest t.high) have-t in
    (held-behind p n n xs (s ∷ rest) clear e (omega arith) ∙ out, (t.high, omega arith, held-behind p n t.high xs (s ∷ rest) clear e (omega arith) ∙ have))

pub near-here : (xs : List Span) (p n : ℕ) (s : Span) → Near n (drop p xs) → drop p xs ≡ s ∷ drop (p + 1) xs → n ≤ s.high + 1
near-here xs p n s near e = let N : List Span → Type 0 = λ l. Near n l in subst N e near

-- a number that is no member and not below the span at its place stands right above it
pub touches-above :
    (xs : List Span) (p n : ℕ) (s : Span) → Clear n (take p xs) → Near n (drop p xs) → drop p xs ≡ s ∷ drop (p + 1) xs
    → held xs n ≡ false → s.low ≤ n → s.high + 1 ≡ n
touches-above xs p n s clear near e absent low =
    let close = near-here xs p n s near e in
    ⊎_elim
    (λ (h : s.high < n). omega arith)
    (λ (h : n ≤ s.high). absurd (both_ways (held xs n) absent (repeated-in xs p n s clear e low h)))
    (cases_lt s.high n)

-- a number that is new or late did not come before
pub absent-since : (f : ℕ → Bool) (n : ℕ) (s : Seen) → Answer f n s → (s ≡ New) ⊎ (s ≡ Late) → f n ≡ false
absent-since f n New answer is =
    ⊎_elim (λ (h : f n ≡ true). absurd (omega (arith, answer n h))) (λ (h : f n ≡ false). h) (cases_Bool (f n))
absent-since f n Late answer is = answer.0
absent-since f n Repeated answer is =
    ⊎_elim (λ (h : Repeated ≡ New). let z : ◌≡◌ {A = ℕ} 0 1 = cc in absurd (omega arith)) (λ (h : Repeated ≡ Late). let z : ◌≡◌ {A = ℕ} 0 1 = cc in absurd (omega arith)) is
