-- The lowest and the highest number of rising spans, and how many between them are lacking.
use Rattle.std.proofs.Common.{◌≡◌, ℕ, zero, suc, ◌+◌, ◌-◌, ◌<◌, ◌≤◌, Bool, true, false, ◌&&◌, leb, List, [], ◌∷◌, length, get_or, Some, None, Option, Bor, sym, refl, ◌∙◌, subst, ⊎_elim, arith}
use Rattle.std.proofs.lemmas.Bool.Decides.{nat_tests}
use Rattle.std.proofs.lemmas.Bool.{cases_lt, both_ways, or_left, or_right, or_cases, and_parts, leb-true}
use Rattle.std.specs.Option.{IfSome, MatchOption, option_map}
use Rattle.numbering.specs.declared.span.Span.{Span}
use Rattle.numbering.specs.Spans.{inside, held, Rises}
use Rattle.numbering.specs.Counting.{count}
use Rattle.numbering.specs.Answer.{Lowest, Highest}
use Rattle.numbering.specs.Members.{lacking}
use Rattle.numbering.proofs.Places.{none_below, rises_at}
use Rattle.numbering.proofs.Counts.{count-split, count_between}

pub none_in : (xs : List Span) → length xs ≤ 0 → (m : ℕ) → held xs m ≡ false
none_in [] le m = refl
none_in (s ∷ ss) le m = absurd (omega arith)

pub lowest_at : (xs : List Span) (s : Span) → Rises 0 xs → 0 < length xs → s ≡ get_or xs 0 s → Lowest (held xs) (Some s.low)
lowest_at [] s rises lt e = absurd (omega arith)
lowest_at (t ∷ ss) s rises lt e =
    let L : Span → Type 0 = λ x. Lowest (held (t ∷ ss)) (Some x.low) in
    let low = rises.1 in
    let here : inside t t.low ≡ true = grind (arith, nat_tests) in
    subst L (sym e) (
      or_left (inside t t.low) (held ss t.low) here,
      λ m in-it. ⊎_elim
          (λ (h : m < t.low). absurd (both_ways (held (t ∷ ss) m) (none_below t.low m (t ∷ ss) (omega arith, rises.1, rises.2) h) in-it))
          (λ (h : t.low ≤ m). h)
          (cases_lt m t.low),
    )

inside-high : (s : Span) (m : ℕ) → inside s m ≡ true → m ≤ s.high
inside-high s m e = leb-true m s.high (and_parts (leb s.low m) (leb m s.high) e).1

pub highest_at : (xs : List Span) (b i : ℕ) (d : Span) → Rises b xs → suc i ≡ length xs → Highest (held xs) (Some (get_or xs i d).high)
highest_at [] b i d rises e = absurd (omega arith)
highest_at (s ∷ []) b zero d rises e =
    let low = rises.1 in
    let here : inside s s.high ≡ true = grind (arith, nat_tests) in (
      or_left (inside s s.high) false here,
      λ m in-it. ⊎_elim (λ (h : inside s m ≡ true). inside-high s m h) (λ (h : false ≡ true). absurd (both_ways false refl h)) (or_cases (inside s m) false in-it),
    )
highest_at (s ∷ t ∷ ss) b zero d rises e = absurd (omega arith)
highest_at (s ∷ []) b (suc i) d rises e = absurd (omega arith)
highest_at (s ∷ t ∷ ss) b (suc i) d rises e =
    let rest : List Span = t ∷ ss in
    let top = (get_or rest i d).high in
    let over = highest_at rest (s.high + 2) i d rises.2 (omega arith) in
    let above = rises_at (s.high + 2) i d rest rises.2 (omega arith) in (
      or_right (inside s top) (held rest top) over.0,
      λ m in-it. ⊎_elim (λ (h : inside s m ≡ true). omega (arith, inside-high s m h, above)) (λ (h : held rest m ≡ true). over.1 m h) (or_cases (inside s m) (held rest m) in-it),
    )

pub highest_last : (xs : List Span) (s : Span) → Rises 0 xs → 0 < length xs → s ≡ get_or xs (length xs - 1) s → Highest (held xs) (Some s.high)
highest_last xs s rises lt e =
    let H : Span → Type 0 = λ x. Highest (held xs) (Some x.high) in
    subst H (sym e) (highest_at xs 0 (length xs - 1) s rises (omega arith))

-- what came, and what is lacking, are all numbers between the ends
pub came-and-lacking :
    (f : ℕ → Bool) (a b bound : ℕ) → Lowest f (Some a) → Highest f (Some b) → b < bound
    → (a ≤ b) × (count f bound + count (lacking f a b) bound ≡ (b - a) + 1)
came-and-lacking f a b bound low high lt =
    let order : a ≤ b = low.1 b high.0 in
    (order, count-split f (λ m. leb a m && leb m b) bound (λ m in-it. let x = low.1 m in-it in let y = high.1 m in-it in grind (arith, nat_tests)) ∙ count_between a b bound order lt)

-- the lowest number by the first span, and the highest by the last
pub lowest_by_first :
    (xs : List Span) (P : Bor Span → Type 0) (first : Option (Bor Span)) → Rises 0 xs → IfSome first (λ s. s.now ≡ get_or xs 0 s.now)
    → MatchOption first (length xs ≤ 0) (λ s. (0 < length xs) × P s) → Lowest (held xs) (option_map (λ s. s.now.low) first)
lowest_by_first xs P (Some s) rises is some = lowest_at xs s.now rises some.0 is
lowest_by_first xs P None rises is none = none_in xs none

pub highest_by_last :
    (xs : List Span) (P : Bor Span → Type 0) (last : Option (Bor Span)) → Rises 0 xs → IfSome last (λ s. s.now ≡ get_or xs (length xs - 1) s.now)
    → MatchOption last (length xs ≤ 0) (λ s. (0 < length xs) × P s) → Highest (held xs) (option_map (λ s. s.now.high) last)
highest_by_last xs P (Some s) rises is some = highest_last xs s.now rises some.0 is
highest_by_last xs P None rises is none = none_in xs none
