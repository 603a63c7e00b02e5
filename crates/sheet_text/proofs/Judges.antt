-- The first wrong line, told by places.
use Rattle.std.proofs.Common.{◌≡◌, ℕ, ◌+◌, true, List, [], ◌∷◌, ◌++◌, length, get_or, take, Some, None, Option, Result, sym, refl, ap, ◌∙◌, subst, ⊎_elim, arith, MatchResult}
use Rattle.std.proofs.lemmas.List.{append_assoc, append-nil, length-append, length_push, take_at, get_or_at}
use Rattle.std.proofs.lemmas.Bool.{cases_lt, cond_both}
use Rattle.sheet_text.specs.declared.types.SheetFault.{SheetFault}
use Rattle.sheet_text.specs.Text.{Row}
use Rattle.sheet_text.specs.Sheets.{right, may_end, first_wrong, answer}
use Rattle.sheet_text.specs.Laws.{RightBelow, Accepted, RefusedAt}

abbrev Judged : List Row → Option ℕ → Type 0
Judged rs None = Accepted rs
Judged rs (Some n) = RefusedAt rs n

here : (passed rs : List Row) (r : Row) → right (take (length passed) (passed ++ r ∷ rs)) (get_or (passed ++ r ∷ rs) (length passed) None) ≡ right passed r
here passed rs r = ap (λ l. right l (get_or (passed ++ r ∷ rs) (length passed) None)) (take_at passed (r ∷ rs) (length passed) refl) ∙ ap (right passed) (get_or_at passed r rs None (length passed) refl)

next : (passed rs : List Row) (r : Row) → RightBelow (passed ++ r ∷ rs) (length passed) → right passed r ≡ true → RightBelow (passed ++ r ∷ rs) (length (passed ++ r ∷ []))
next passed rs r below e k l =
    let long = length_push passed r in
    ⊎_elim
    (λ h. below k h)
    (λ h. let same : length passed ≡ k = omega arith in subst (λ j. right (take j (passed ++ r ∷ rs)) (get_or (passed ++ r ∷ rs) j None) ≡ true) same (here passed rs r ∙ e))
    (cases_lt k (length passed))

judged : (passed rs : List Row) → RightBelow (passed ++ rs) (length passed) → Judged (passed ++ rs) (first_wrong passed rs)
judged passed [] below =
    let all = append-nil passed in
    let long : length (passed ++ []) ≡ length passed = ap length all in
    cond_both (may_end passed) None (Some (length passed + 1)) (Judged (passed ++ []))
    (λ e. record { each = (λ k l. below k (omega arith)); ended = ap may_end all ∙ e })
    (λ e. record { place = length passed; line = refl; within = omega arith; each = below; wrong = (λ l. absurd (omega arith)); lacking = (λ _. ap may_end all ∙ e) })
judged passed (r ∷ rs) below =
    let long : length (passed ++ r ∷ rs) ≡ length passed + length (r ∷ rs) = length-append passed (r ∷ rs) in
    let whole = append_assoc passed (r ∷ []) rs in
    cond_both (right passed r) (first_wrong (passed ++ r ∷ []) rs) (Some (length passed + 1)) (Judged (passed ++ r ∷ rs))
    (λ e. subst (λ l. Judged l (first_wrong (passed ++ r ∷ []) rs)) whole (judged (passed ++ r ∷ []) rs (subst (λ l. RightBelow l (length (passed ++ r ∷ []))) (sym whole) (next passed rs r below e))))
    (λ e. record { place = length passed; line = refl; within = omega arith; each = below; wrong = (λ _. here passed rs r ∙ e); lacking = (λ h. absurd (omega arith)) })

answered : (rs : List Row) (o : Option ℕ) → Judged rs o → MatchResult (answer o) (λ _. Accepted rs) (λ e. RefusedAt rs e.line)
answered rs None j = j
answered rs (Some n) j = j

pub judges : (rs : List Row) (r : Result (Unit {0}) SheetFault) → r ≡ answer (first_wrong [] rs) → MatchResult r (λ _. Accepted rs) (λ e. RefusedAt rs e.line)
judges rs r e =
    subst (λ a. MatchResult a (λ _. Accepted rs) (λ e. RefusedAt rs e.line)) (sym e) (answered rs (first_wrong [] rs) (judged [] rs (λ k l. absurd (omega arith))))
