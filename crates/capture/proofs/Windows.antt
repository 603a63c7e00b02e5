-- What a window shows is what the file holds there.
use Rattle.std.proofs.Common.{◌≡◌, ℕ, zero, suc, ◌+◌, ◌-◌, ◌<◌, ◌≤◌, Bool, true, false, cond, eqb, ltb, List, [], ◌∷◌, ◌++◌, length, drop, Ok, Err, Result, sym, refl, ap, ◌∙◌, ⊎_elim, sub-one, arith, length-append}
use Rattle.std.proofs.lemmas.List.{append-nil, drop-append-le}
use Rattle.std.proofs.lemmas.Bool.{cond-true, cond-false, cond_both, le-ltb, lt-ltb, ltb-true, ltb-false, eqb-true, eqb-false, false≢true, cases_lt}
use Rattle.std.proofs.lemmas.Bool.Decides.{nat_tests}
use Rattle.capture.specs.declared.fault.CaptureFault.{CaptureFault}
use Rattle.capture.specs.declared.fault.CaptureFault.TheVariants.{RecordCut, RecordLong}
use Rattle.capture.specs.declared.format.Format.{Format}
use Rattle.capture.specs.Header.{and_then}
use Rattle.capture.specs.Window.{end, more, taken, step_of, Agrees}
use Rattle.capture.proofs.Fronts.{captured_front, held_front}
use Rattle.capture.specs.Records.{captured, record_held, wanted, size_of, onward, contents}

contents_skip : (f : Format) (k : ℕ) (bs : List ℕ) (at : ℕ) → contents f k bs at ≡ contents f 0 (drop k bs) at
unfolding contents
contents_skip f zero [] at = refl
contents_skip f (suc k) [] at = refl
contents_skip f zero (b ∷ bs) at = refl
contents_skip f (suc k) (b ∷ bs) at = contents_skip f k bs at

pub contents_next : (f : Format) (bs : List ℕ) (at n : ℕ) → 0 < length bs → 0 < n → Ok n ≡ size_of f bs at → contents f 0 bs at ≡ Ok (record_held f bs) ∷ contents f 0 (drop n bs) (at + n)
unfolding contents
contents_next f [] at n l p e = absurd (omega arith)
contents_next f (b ∷ bs) at zero l p e = absurd (omega arith)
contents_next f (b ∷ bs) at (suc n) l p e =
    ap (λ r. onward r (record_held f (b ∷ bs)) (λ m. contents f (m - 1) bs (at + m))) (sym e)
    ∙ ap (λ m. Ok (record_held f (b ∷ bs)) ∷ contents f m bs (at + suc n)) (sub-one (suc n))
    ∙ ap (λ rest. Ok (record_held f (b ∷ bs)) ∷ rest) (contents_skip f n bs (at + suc n))

pub contents_fault : (f : Format) (bs : List ℕ) (at : ℕ) (e : CaptureFault) → 0 < length bs → Err e ≡ size_of f bs at → contents f 0 bs at ≡ Err e ∷ []
unfolding contents
contents_fault f [] at e l m = absurd (omega arith)
contents_fault f (b ∷ bs) at e l m = ap (λ r. onward r (record_held f (b ∷ bs)) (λ n. contents f (n - 1) bs (at + n))) (sym m)

pub contents-end : (f : Format) (bs : List ℕ) (at : ℕ) → length bs ≤ 0 → contents f 0 bs at ≡ []
unfolding contents
contents-end f [] at l = refl
contents-end f (b ∷ bs) at l = absurd (omega arith)

-- the bytes that are wanted, by the window's length and the captured length
abbrev wanted_by : ℕ → ℕ → ℕ → Result ℕ CaptureFault
wanted_by long c at = cond (ltb long 16) (Ok 16) (cond (ltb 262144 c) (Err (RecordLong at)) (Ok (16 + c)))

wanted-long : (m n c at : ℕ) → 16 ≤ m → 16 ≤ n → wanted_by m c at ≡ wanted_by n c at
wanted-long m n c at p q = cond-false (ltb m 16) _ _ (le-ltb m 16 p) ∙ sym (cond-false (ltb n 16) _ _ (le-ltb n 16 q))

wanted_fault : (long c at : ℕ) (e : CaptureFault) → Err e ≡ wanted_by long c at → 16 ≤ long
wanted_fault long c at e m = grind (arith, nat_tests)

pub wanted-whole : (long c at n : ℕ) → Ok n ≡ wanted_by long c at → n ≤ long → (16 ≤ long) × (n ≡ 16 + c)
wanted-whole long c at n m h = (grind (arith, nat_tests), grind (arith, nat_tests))

wanted-bound : (long c at n : ℕ) → Ok n ≡ wanted_by long c at → n ≤ 262160
wanted-bound long c at n m = grind (arith, nat_tests)

-- the header tells the same whatever stands behind it
wanted_front : (f : Format) (w r : List ℕ) (at : ℕ) → 16 ≤ length w → wanted f (w ++ r) at ≡ wanted f w at
wanted_front f w r at h =
    let long = length-append w r in
    wanted-long (length (w ++ r)) (length w) (captured f (w ++ r)) at (omega arith) h ∙ ap (λ c. wanted_by (length w) c at) (captured_front f w r h)

pub size-whole : (f : Format) (bs : List ℕ) (at n : ℕ) → Ok n ≡ wanted f bs at → n ≤ length bs → Ok n ≡ size_of f bs at
size-whole f bs at n e h =
    sym (cond-false (ltb (length bs) n) (Err (RecordCut at)) (Ok n) (le-ltb (length bs) n h)) ∙ ap (λ r. and_then r (λ n. cond (ltb (length bs) n) (Err (RecordCut at)) (Ok n))) e

pub size-cut : (f : Format) (bs : List ℕ) (at n : ℕ) → Ok n ≡ wanted f bs at → length bs < n → Err (RecordCut at) ≡ size_of f bs at
size-cut f bs at n e h =
    sym (cond-true (ltb (length bs) n) (Err (RecordCut at)) (Ok n) (lt-ltb (length bs) n h)) ∙ ap (λ r. and_then r (λ n. cond (ltb (length bs) n) (Err (RecordCut at)) (Ok n))) e

pub size_fault : (f : Format) (bs : List ℕ) (at : ℕ) (e : CaptureFault) → Err e ≡ wanted f bs at → Err e ≡ size_of f bs at
size_fault f bs at e m = ap (λ r. and_then r (λ n. cond (ltb (length bs) n) (Err (RecordCut at)) (Ok n))) m

-- a window that holds the record
pub agrees_taken : (f : Format) (w rest : List ℕ) (at n : ℕ) → Ok n ≡ wanted f w at → n ≤ length w → Agrees f w rest at (Ok (taken (record_held f w) n))
agrees_taken f w rest at n e h =
    let is = wanted-whole (length w) (captured f w) at n e h in
    let long = length-append w rest in
    let size = size-whole f (w ++ rest) at n (e ∙ sym (wanted_front f w rest at is.0)) (omega arith) in
    let next = contents_next f (w ++ rest) at n (omega arith) (omega arith) size in
    let held = held_front f w rest is.0 (omega arith) in
    (h, omega arith, next ∙ (ap (λ x. Ok x ∷ contents f 0 (drop n (w ++ rest)) (at + n)) held ∙ ap (λ x. Ok (record_held f w) ∷ contents f 0 x (at + n)) (drop-append-le n w rest h)))

-- fewer bytes than a header wants
wanted-first : (f : Format) (w : List ℕ) (at n : ℕ) → Ok n ≡ wanted f w at → length w < 16 → n ≡ 16
wanted-first f w at n e h = grind (arith, nat_tests)

more-short : (f : Format) (bs : List ℕ) (at : ℕ) → 0 < length bs → length bs < 16 → contents f 0 bs at ≡ Err (RecordCut at) ∷ []
more-short f bs at some h =
    let all : Ok 16 ≡ wanted f bs at = sym (cond-true (ltb (length bs) 16) _ _ (lt-ltb (length bs) 16 h)) in
    contents_fault f bs at (RecordCut at) some (size-cut f bs at 16 all h)

more-long : (f : Format) (w rest : List ℕ) (at n : ℕ) → Ok n ≡ wanted f w at → 16 ≤ length w → 0 < length (w ++ rest) → length (w ++ rest) < n → contents f 0 (w ++ rest) at ≡ Err (RecordCut at) ∷ []
more-long f w rest at n e long some few =
    contents_fault f (w ++ rest) at (RecordCut at) some (size-cut f (w ++ rest) at n (e ∙ sym (wanted_front f w rest at long)) few)

-- a window that ends before the record, in a file that goes on
agrees_more : (f : Format) (w rest : List ℕ) (at n : ℕ) → Ok n ≡ wanted f w at → length w < n → Agrees f w rest at (Ok (more n))
agrees_more f w rest at n e h = (
  h,
  wanted-bound (length w) (captured f w) at n e,
  λ some few. ⊎_elim (λ short. let first = wanted-first f w at n e short in more-short f (w ++ rest) at some (omega arith)) (λ long. more-long f w rest at n e long some few) (cases_lt (length w) 16),
)

-- a window that ends before the record, as the file does
agrees_cut : (f : Format) (w rest : List ℕ) (at n : ℕ) → rest ≡ [] → 0 < length w → Ok n ≡ wanted f w at → length w < n → Agrees f w rest at (Err (RecordCut at))
agrees_cut f w rest at n none some e h =
    ap (λ x. contents f 0 x at) (ap (λ x. w ++ x) none ∙ append-nil w) ∙ contents_fault f w at (RecordCut at) some (size-cut f w at n e h)

agrees_fault : (f : Format) (w rest : List ℕ) (at : ℕ) (e : CaptureFault) → Err e ≡ wanted f w at → Agrees f w rest at (Err e)
agrees_fault f w rest at e m =
    let full = wanted_fault (length w) (captured f w) at e m in
    let long = length-append w rest in
    contents_fault f (w ++ rest) at e (omega arith) (size_fault f (w ++ rest) at e (m ∙ sym (wanted_front f w rest at full)))

agrees_end : (f : Format) (w rest : List ℕ) (at : ℕ) → rest ≡ [] → length w ≡ 0 → Agrees f w rest at (Ok end)
agrees_end f w rest at none empty =
    let long = length-append w rest in
    let zero-long = ap length none in
    contents-end f (w ++ rest) at (omega arith)

-- a window of a file that goes on, or has something left
agrees_by : (f : Format) (w rest : List ℕ) (at : ℕ) (last : Bool) → (last ≡ true → rest ≡ []) → (last ≡ true → 0 < length w) → (m : Result ℕ CaptureFault) → m ≡ wanted f w at → Agrees f w rest at (and_then m (λ n. cond (ltb (length w) n) (cond last (Err (RecordCut at)) (Ok (more n))) (Ok (taken (record_held f w) n))))
agrees_by f w rest at last tail some (Err e) m = agrees_fault f w rest at e m
agrees_by f w rest at true tail some (Ok n) m =
    cond_both (ltb (length w) n) _ _ (Agrees f w rest at) (λ h. agrees_cut f w rest at n (tail refl) (some refl) m (ltb-true (length w) n h)) (λ h. agrees_taken f w rest at n m (ltb-false (length w) n h))
agrees_by f w rest at false tail some (Ok n) m =
    cond_both (ltb (length w) n) _ _ (Agrees f w rest at) (λ h. agrees_more f w rest at n m (ltb-true (length w) n h)) (λ h. agrees_taken f w rest at n m (ltb-false (length w) n h))

pub agrees : (f : Format) (w rest : List ℕ) (at : ℕ) (last : Bool) → (last ≡ true → rest ≡ []) → Agrees f w rest at (step_of f w at last)
agrees f w rest at false tail = agrees_by f w rest at false tail (λ e. absurd (false≢true e)) (wanted f w at) refl
agrees f w rest at true tail =
    cond_both (eqb (length w) 0) _ _ (Agrees f w rest at) (λ h. agrees_end f w rest at (tail refl) (eqb-true (length w) 0 h)) (λ h. agrees_by f w rest at true tail (λ _. let ne = eqb-false (length w) 0 h in omega arith) (wanted f w at) refl)
