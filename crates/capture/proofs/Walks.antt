-- One step over a whole file, from what its window shows.
use Rattle.std.proofs.Common.{◌≡◌, ℕ, ◌+◌, List, [], ◌∷◌, ◌++◌, drop, Ok, Err, Option, Result, sym, ap, ◌∙◌, subst}
use Rattle.std.proofs.lemmas.List.{append-nil, drop-drop}
use Rattle.capture.specs.declared.fault.CaptureFault.{CaptureFault}
use Rattle.capture.specs.declared.file.Capture.{Capture}
use Rattle.capture.specs.declared.format.Format.{Format}
use Rattle.capture.specs.declared.frame.Frame.{Frame}
use Rattle.capture.specs.Held.{Held}
use Rattle.capture.specs.Records.{contents}
use Rattle.capture.specs.Window.{Move, end, taken, Agrees}
use Rattle.capture.specs.Walk.{left, Stepped}

-- a window with nothing behind it
whole : (f : Format) (w bs : List ℕ) (at : ℕ) → w ≡ bs → contents f 0 bs at ≡ contents f 0 (w ++ []) at
whole f w bs at e = ap (λ x. contents f 0 x at) (sym e ∙ sym (append-nil w))

-- what the window shows, with the form that the code found
found : (f : Format) (w : List ℕ) (at : ℕ) (m n : Result Move CaptureFault) → m ≡ n → Agrees f w [] at m → Agrees f w [] at n
found f w at m n e a = subst (λ (s : Result Move CaptureFault). Agrees f w [] at s) e a

pub left_end : (f : Format) (w bs : List ℕ) (at : ℕ) (m : Result Move CaptureFault) → w ≡ drop at bs → m ≡ Ok end → Agrees f w [] at m → contents f 0 (drop at bs) at ≡ []
left_end f w bs at m e is a = whole f w (drop at bs) at e ∙ found f w at m (Ok end) is a

pub left_fault : (f : Format) (w bs : List ℕ) (at : ℕ) (x y : CaptureFault) → w ≡ drop at bs → x ≡ y → Agrees f w [] at (Err y) → contents f 0 (drop at bs) at ≡ Err x ∷ []
left_fault f w bs at x y e is a = whole f w (drop at bs) at e ∙ found f w at (Err y) (Err x) (ap (λ z. Err z) (sym is)) a

pub left-taken : (f : Format) (w bs : List ℕ) (at n : ℕ) (h : Held) (m : Result Move CaptureFault) → w ≡ drop at bs → m ≡ Ok (taken h n) → Agrees f w [] at m → contents f 0 (drop at bs) at ≡ Ok h ∷ contents f 0 (drop (at + n) bs) (at + n)
left-taken f w bs at n h m e is a =
    let b = found f w at m (Ok (taken h n)) is a in
    whole f w (drop at bs) at e ∙ (b.2 ∙ ap (λ x. Ok h ∷ contents f 0 x (at + n)) (append-nil (drop n w) ∙ (ap (drop n) e ∙ drop-drop n at bs)))

-- a step that ends with a fault
pub stepped_fault : (c after : Capture) (r : Result (Option Frame) CaptureFault) (x : CaptureFault) → r ≡ Err x → left c ≡ Err x ∷ [] → after ≡ c → Stepped c r after
stepped_fault c after r x is l same = subst (λ (s : Result (Option Frame) CaptureFault). Stepped c s after) (sym is) (l, same)
