-- Reading field lines, one by one.
use Rattle.std.proofs.Common.{◌≡◌, ℕ, ◌+◌, ◌<◌, ◌≤◌, Bool, true, false, eqb, List, [], ◌∷◌, ◌++◌, length, take, set, Some, None, Option, sym, refl, ap, ◌∙◌, subst, arith}
use Rattle.std.proofs.lemmas.List.{append_assoc, append-nil, length_push, length-take-le, length-set, take_more_set, nil_from_length}
use Rattle.std.proofs.lemmas.Bool.{true≢false, ne_eqb, cond-true, cond-false, cond_both}
use Rattle.sheet_text.specs.declared.types.FieldLine.{FieldLine}
use Rattle.sheet_text.specs.Text.{Row, rows, rows_from, ended, starts_well, and_then}
use Rattle.sheet_text.specs.FieldLines.{sound, field_line}
use Rattle.sheet_text.specs.Follows.{complete, may_follow}
use Rattle.sheet_text.specs.Sheets.{first_wrong, field_lines, with_line, follows, right}
use Rattle.sheet_text.specs.Opening.{opening_rows}
use Rattle.sheet_text.specs.Kept.{Kept}
use Rattle.sheet_text.proofs.Keeps.{keeps}

-- n field lines stand in `lines`, and `rest` is still to be read
pub record Reads (text rest : List ℕ) (lines : List FieldLine) (n : ℕ) : Type 0 where
  pub passed : List Row
  pub count : length passed ≡ n
  pub found : field_lines passed ≡ take n lines
  pub whole : passed ++ rows rest ≡ rows text
  pub wrong : (line : List ℕ) → first_wrong (opening_rows line ++ passed) (rows rest) ≡ first_wrong (opening_rows line) (rows text)
  pub kept : Kept (take n lines)
  pub within : n ≤ 320
  pub long : length lines ≡ 320

pub reads_none : (text : List ℕ) (lines : List FieldLine) → length lines ≡ 320 → Reads text text lines 0
reads_none text lines h = record {
  passed = [];
  count = refl;
  found = refl;
  whole = refl;
  wrong = (λ line. refl);
  kept = record { each = refl; few = omega arith; stats = omega arith; short = omega arith };
  within = omega arith;
  long = h;
}

-- the place of the next row
place : (line : List ℕ) (passed : List Row) (n : ℕ) → length passed ≡ n → ◌≡◌ {A = Option ℕ} (Some (length (opening_rows line ++ passed) + 1)) (Some (n + 5))
place line passed n e = let p : length (opening_rows line ++ passed) + 1 ≡ n + 5 = omega arith in ap Some p

stops : (line : List ℕ) (passed : List Row) (row : Row) (rs : List Row) (n : ℕ) → length passed ≡ n → right (opening_rows line ++ passed) row ≡ false → first_wrong (opening_rows line ++ passed) (row ∷ rs) ≡ Some (n + 5)
stops line passed row rs n e h = cond-false _ _ _ h ∙ place line passed n e

abbrev none : List Row → Bool
none [] = true
none (r ∷ rs) = false

filled_line : (b : ℕ) (line bs : List ℕ) → none (rows_from (b ∷ line) bs) ≡ false
filled_line b line [] = ap none (cond-false _ _ _ (ne_eqb (length (b ∷ line)) 0 (λ e. omega arith)))
filled_line b line (c ∷ bs) =
    cond_both (eqb c 10) (ended (b ∷ line) ∷ rows_from [] bs) (rows_from (b ∷ line ++ c ∷ []) bs) (λ rs. none rs ≡ false) (λ _. refl) (λ _. filled_line b (line ++ c ∷ []) bs)

-- a text with bytes has a row
filled : (bs : List ℕ) → 0 < length bs → none (rows bs) ≡ false
filled [] h = absurd (omega arith)
filled (b ∷ bs) h =
    cond_both (eqb b 10) (ended [] ∷ rows_from [] bs) (rows_from (b ∷ []) bs) (λ rs. none rs ≡ false) (λ _. refl) (λ _. filled_line b [] bs)

ill : (line : List ℕ) (passed rs : List Row) (n : ℕ) → length passed ≡ n → starts_well rs ≡ false → none rs ≡ false → first_wrong (opening_rows line ++ passed) rs ≡ Some (n + 5)
ill line passed [] n e h f = absurd (true≢false f)
ill line passed (None ∷ rs) n e h f = stops line passed None rs n e refl
ill line passed (Some l ∷ rs) n e h f = absurd (true≢false h)

pub reads_ill : (text rest : List ℕ) (lines : List FieldLine) (n : ℕ) → Reads text rest lines n → 0 < length rest → starts_well (rows rest) ≡ false → (line : List ℕ) → first_wrong (opening_rows line) (rows text) ≡ Some (n + 5)
reads_ill text rest lines n r l h line = sym (r.wrong line) ∙ ill line r.passed (rows rest) n r.count h (filled rest l)

pub reads_unfit : (text rest l : List ℕ) (rs : List Row) (lines : List FieldLine) (n : ℕ) → Reads text rest lines n → rows rest ≡ Some l ∷ rs → follows (take n lines) (field_line l) ≡ false → (line : List ℕ) → first_wrong (opening_rows line) (rows text) ≡ Some (n + 5)
reads_unfit text rest l rs lines n r e h line =
    sym (r.wrong line) ∙ (ap (first_wrong (opening_rows line ++ r.passed)) e ∙ stops line r.passed (Some l) rs n r.count (ap (λ xs. follows xs (field_line l)) r.found ∙ h))

with_more : (o : Option FieldLine) (xs ys : List FieldLine) → with_line o (xs ++ ys) ≡ with_line o xs ++ ys
with_more None xs ys = refl
with_more (Some x) xs ys = refl

-- the field lines of one row more
pub lines_more : (rs : List Row) (r : Row) → field_lines (rs ++ r ∷ []) ≡ field_lines rs ++ with_line (and_then r field_line) []
lines_more [] r = refl
lines_more (q ∷ rs) r =
    ap (with_line (and_then q field_line)) (lines_more rs r) ∙ with_more (and_then q field_line) (field_lines rs) (with_line (and_then r field_line) [])

pub reads_more : (text rest more l : List ℕ) (x : FieldLine) (lines : List FieldLine) (n : ℕ) → Reads text rest lines n → rows rest ≡ Some l ∷ rows more → field_line l ≡ Some x → sound x ≡ true → may_follow (take n lines) x ≡ true → Reads text more (set lines n x) (n + 1) × (n < 320)
reads_more text rest more l x lines n r e f s h =
    let k = keeps (take n lines) x r.kept s h in
    let long = r.long in
    let within = r.within in
    let front : length (take n lines) ≡ n = length-take-le n lines (omega arith) in
    let lt : n < 320 = omega (arith, k.1, front) in
    let taken : take (n + 1) (set lines n x) ≡ take n lines ++ x ∷ [] = take_more_set lines n x (omega arith) in
    let fits : follows (field_lines r.passed) (field_line l) ≡ true = ap (λ o. follows (field_lines r.passed) o) f ∙ (ap (λ xs. may_follow xs x) r.found ∙ h) in (
      record {
        passed = r.passed ++ Some l ∷ [];
        count = length_push r.passed (Some l) ∙ ap (λ k. k + 1) r.count;
        found = lines_more r.passed (Some l) ∙ (ap (λ o. field_lines r.passed ++ with_line o []) f ∙ (ap (λ xs. xs ++ x ∷ []) r.found ∙ sym taken));
        whole = append_assoc r.passed (Some l ∷ []) (rows more) ∙ (ap (λ rs. r.passed ++ rs) (sym e) ∙ r.whole);
        wrong = (λ line. sym (ap (first_wrong (opening_rows line ++ r.passed)) e ∙ cond-true _ _ _ fits) ∙ r.wrong line);
        kept = subst Kept (sym taken) k.0;
        within = omega arith;
        long = length-set lines n x ∙ long;
      },
      lt,
    )

pub reads_end : (text rest : List ℕ) (lines : List FieldLine) (n : ℕ) → Reads text rest lines n → length rest ≡ 0 → complete (take n lines) ≡ true → ((line : List ℕ) → first_wrong (opening_rows line) (rows text) ≡ None) × (take n lines ≡ field_lines (rows text))
reads_end text rest lines n r e h =
    let end : rows rest ≡ [] = ap rows (nil_from_length rest e) in (
      (λ line. sym (r.wrong line) ∙ (ap (first_wrong (opening_rows line ++ r.passed)) end ∙ cond-true _ _ _ (ap complete r.found ∙ h))),
      sym r.found ∙ ap field_lines (sym (append-nil r.passed) ∙ (ap (λ rs. r.passed ++ rs) (sym end) ∙ r.whole)),
    )

pub reads-lacking : (text rest : List ℕ) (lines : List FieldLine) (n : ℕ) → Reads text rest lines n → length rest ≡ 0 → complete (take n lines) ≡ false → (line : List ℕ) → first_wrong (opening_rows line) (rows text) ≡ Some (n + 5)
reads-lacking text rest lines n r e h line =
    sym (r.wrong line) ∙ (ap (first_wrong (opening_rows line ++ r.passed)) (ap rows (nil_from_length rest e)) ∙ (cond-false _ _ _ (ap complete r.found ∙ h) ∙ place line r.passed n r.count))
