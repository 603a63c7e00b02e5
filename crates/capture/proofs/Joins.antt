-- Whole records, and what stands behind them.
use Rattle.std.proofs.Common.{◌≡◌, ℕ, zero, suc, ◌+◌, ◌<◌, ◌≤◌, true, List, [], ◌∷◌, ◌++◌, length, drop, Ok, Err, Result, sym, refl, ap, ◌∙◌, ⊎_elim, add-zero, arith, length-drop}
use Rattle.std.proofs.lemmas.Bool.{cases_lt, false≢true}
use Rattle.capture.specs.declared.fault.CaptureFault.{CaptureFault}
use Rattle.capture.specs.declared.fault.CaptureFault.TheVariants.{RecordCut}
use Rattle.capture.specs.declared.format.Format.{Format}
use Rattle.capture.specs.Records.{captured, record_held, wanted, contents}
use Rattle.capture.specs.Joined.{faultless, RecordsJoin}
use Rattle.capture.proofs.Windows.{contents_next, contents_fault, contents-end, wanted-whole, size-whole, size-cut, size_fault, agrees_taken}

-- what is to be shown of some records
abbrev Joins : Format → List ℕ → List ℕ → ℕ → Type 0
Joins f a b at = contents f 0 (a ++ b) at ≡ contents f 0 a at ++ contents f 0 b (at + length a)

-- a fault is no part of faultless records
never : (f : Format) (a b : List ℕ) (at : ℕ) (e : CaptureFault) → faultless (contents f 0 a at) ≡ true → contents f 0 a at ≡ Err e ∷ [] → Joins f a b at
never f a b at e fine is = absurd (false≢true (sym (ap faultless is) ∙ fine))

-- one record, where the rest joins
joins_one : (f : Format) (a b : List ℕ) (at n : ℕ) → Ok n ≡ wanted f a at → n ≤ length a → faultless (contents f 0 a at) ≡ true → (faultless (contents f 0 (drop n a) (at + n)) ≡ true → Joins f (drop n a) b (at + n)) → Joins f a b at
joins_one f a b at n m h fine more =
    let is = wanted-whole (length a) (captured f a) at n m h in
    let here = contents_next f a at n (omega arith) (omega arith) (size-whole f a at n m h) in
    let rest = more (sym (ap faultless here) ∙ fine) in
    let both = (agrees_taken f a b at n m h).2 in
    let long : (at + n) + length (drop n a) ≡ at + length a = omega (arith, length-drop n a) in
    both
    ∙ ap (λ x. Ok (record_held f a) ∷ x) (rest ∙ ap (λ k. contents f 0 (drop n a) (at + n) ++ contents f 0 b k) long)
    ∙ ap (λ x. x ++ contents f 0 b (at + length a)) (sym here)

joins_by : (f : Format) (a b : List ℕ) (at : ℕ) → 0 < length a → faultless (contents f 0 a at) ≡ true → ((n : ℕ) → 0 < n → faultless (contents f 0 (drop n a) (at + n)) ≡ true → Joins f (drop n a) b (at + n)) → (m : Result ℕ CaptureFault) → m ≡ wanted f a at → Joins f a b at
joins_by f a b at some fine more (Err e) m = never f a b at e fine (contents_fault f a at e some (size_fault f a at e m))
joins_by f a b at some fine more (Ok n) m =
    ⊎_elim
    (λ short. never f a b at (RecordCut at) fine (contents_fault f a at (RecordCut at) some (size-cut f a at n m short)))
    (λ long. joins_one f a b at n m long fine (more n (let is = wanted-whole (length a) (captured f a) at n m long in omega arith)))
    (cases_lt (length a) n)

-- by how many bytes there are at most
joins_all : (most : ℕ) (f : Format) (a b : List ℕ) (at : ℕ) → length a ≤ most → faultless (contents f 0 a at) ≡ true → Joins f a b at
joins_all most f [] b at h fine = ap (λ k. contents f 0 b k) (sym (add-zero at)) ∙ ap (λ x. x ++ contents f 0 b (at + 0)) (sym (contents-end f [] at (omega arith)))
joins_all zero f (x ∷ a) b at h fine = absurd (omega arith)
joins_all (suc most) f (x ∷ a) b at h fine =
    joins_by f (x ∷ a) b at (omega arith) fine (λ n p ok. joins_all most f (drop n (x ∷ a)) b (at + n) (omega (arith, length-drop n (x ∷ a))) ok) (wanted f (x ∷ a) at) refl

pub records_join : RecordsJoin
records_join f a b at fine = joins_all (length a) f a b at (omega arith) fine
