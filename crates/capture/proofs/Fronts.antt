-- The record at the front of some bytes stays the same whatever bytes stand behind it.
use Rattle.std.proofs.Common.{◌≡◌, ℕ, zero, suc, ◌+◌, ◌-◌, ◌*◌, ◌≤◌, cond, ltb, List, ◌++◌, length, take, drop, sym, refl, ap, ◌∙◌, arith, length-drop}
use Rattle.std.proofs.lemmas.List.{get_or_append_left, drop-append-le, take-append-le}
use Rattle.std.proofs.lemmas.Bool.{cond-false, le-ltb}
use Rattle.capture.specs.declared.order.ByteOrder.{ByteOrder}
use Rattle.capture.specs.declared.order.ByteOrder.TheVariants.{Little, Big}
use Rattle.capture.specs.declared.format.Format.{Format}
use Rattle.capture.specs.Numbers.{little_at, big_at, number_at}
use Rattle.capture.specs.Held.{Held, cut}
use Rattle.capture.specs.Network.{link_held}
use Rattle.capture.specs.Records.{captured, original, nanoseconds, time_of, record_held}

little_front : (w r : List ℕ) (at n : ℕ) → at + n ≤ length w → little_at (w ++ r) at n ≡ little_at w at n
little_front w r at zero h = refl
little_front w r at (suc n) h =
    let here = get_or_append_left w r 0 at (omega arith) in
    let behind = little_front w r (at + 1) n (omega arith) in
    cc

big_front : (w r : List ℕ) (at n : ℕ) → at + n ≤ length w → big_at (w ++ r) at n ≡ big_at w at n
big_front w r at zero h = refl
big_front w r at (suc n) h =
    let here = get_or_append_left w r 0 at (omega arith) in
    let behind = big_front w r (at + 1) n (omega arith) in
    cc

number_front : (o : ByteOrder) (w r : List ℕ) (at n : ℕ) → at + n ≤ length w → number_at o (w ++ r) at n ≡ number_at o w at n
number_front Little w r at n h = little_front w r at n h
number_front Big w r at n h = big_front w r at n h

pub captured_front : (f : Format) (w r : List ℕ) → 16 ≤ length w → captured f (w ++ r) ≡ captured f w
captured_front f w r h = number_front f.order w r 8 4 (omega arith)

time_front : (f : Format) (w r : List ℕ) → 16 ≤ length w → time_of f (w ++ r) ≡ time_of f w
time_front f w r h =
    let seconds = number_front f.order w r 0 4 (omega arith) in
    let fraction = number_front f.order w r 4 4 (omega arith) in
    ap (λ s. s * 1000000000 + number_at f.order (w ++ r) 4 4 * nanoseconds f.precision) seconds ∙ ap (λ s. number_at f.order w 0 4 * 1000000000 + s * nanoseconds f.precision) fraction

bytes_front : (w r : List ℕ) (n : ℕ) → 16 + n ≤ length w → take n (drop 16 (w ++ r)) ≡ take n (drop 16 w)
bytes_front w r n h =
    let long = length-drop 16 w in
    ap (take n) (drop-append-le 16 w r (omega arith)) ∙ take-append-le n (drop 16 w) r (omega arith)

-- a record by its four parts
abbrev holding : Format → ℕ → ℕ → ℕ → List ℕ → Held
holding f c o t bytes = cond (ltb c o) cut (link_held f.link t bytes)

pub held_front : (f : Format) (w r : List ℕ) → 16 ≤ length w → 16 + captured f w ≤ length w → record_held f (w ++ r) ≡ record_held f w
held_front f w r h whole =
    let c = captured_front f w r h in
    let o = number_front f.order w r 12 4 (omega arith) in
    let t = time_front f w r h in
    ap (λ x. holding f x (original f (w ++ r)) (time_of f (w ++ r)) (take x (drop 16 (w ++ r)))) c
    ∙ ap (λ x. holding f (captured f w) x (time_of f (w ++ r)) (take (captured f w) (drop 16 (w ++ r)))) o
    ∙ ap (λ x. holding f (captured f w) (original f w) x (take (captured f w) (drop 16 (w ++ r)))) t
    ∙ ap (λ x. holding f (captured f w) (original f w) (time_of f w) x) (bytes_front w r (captured f w) whole)

-- a record that the code cuts out of its window
pub held_whole : (f : Format) (bs : List ℕ) (size t : ℕ) (h : Held) → size ≡ 16 + captured f bs → original f bs ≤ captured f bs → t ≡ time_of f bs → h ≡ link_held f.link t (take (size - 16) (drop 16 bs)) → h ≡ record_held f bs
held_whole f bs size t h s o e said =
    let n : size - 16 ≡ captured f bs = omega arith in
    said ∙ (ap (λ x. link_held f.link x (take (size - 16) (drop 16 bs))) e ∙ (ap (λ k. link_held f.link (time_of f bs) (take k (drop 16 bs))) n ∙ sym (cond-false (ltb (captured f bs) (original f bs)) _ _ (le-ltb (captured f bs) (original f bs) o))))
