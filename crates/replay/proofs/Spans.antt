-- The calls on a tape stay as they are when another is put behind them.
use Rattle.std.proofs.Common.{◌≡◌, ℕ, ◌+◌, ◌≤◌, true, ◌&&◌, leb, List, [], ◌∷◌, ◌++◌, map, length, take, drop, refl, ap, ◌∙◌, ap₂, arith, length-append}
use Rattle.std.proofs.lemmas.List.{map-append, length-drop, take_all, take-append-le, drop_at, drop-append-le}
use Rattle.std.proofs.lemmas.Bool.{and_parts, leb-true, le-leb}
use Rattle.recovery.specs.Calls.{Call, incremental, snapshot}
use Rattle.replay.specs.declared.call.Call.{Call as DeskCall}
use Rattle.replay.specs.declared.call.Call.TheVariants as calls
use Rattle.replay.specs.declared.entry.Entry.{Entry}
use Rattle.replay.specs.declared.entry.Entry.TheVariants.{Incremental, Join, Leave, Snapshot, Question}
use Rattle.replay.specs.Requests.{request}
use Rattle.replay.specs.Entries.{asked, bytes_in, entry_at, lies, within}

span_stays : (from size : ℕ) (tape more : List ℕ) → from + size ≤ length tape → take size (drop from (tape ++ more)) ≡ take size (drop from tape)
span_stays from size tape more h =
    ap (take size) (drop-append-le from tape more (omega (arith, h))) ∙ take-append-le size (drop from tape) more (omega (arith, h, length-drop from tape))

span_new : (tape more : List ℕ) → take (length more) (drop (length tape) (tape ++ more)) ≡ more
span_new tape more = ap (take (length more)) (drop_at tape more (length tape) refl) ∙ take_all (length more) more (omega arith)

fits_more : (n : ℕ) (tape more : List ℕ) → leb n (length tape) ≡ true → leb n (length (tape ++ more)) ≡ true
fits_more n tape more h = le-leb n (length (tape ++ more)) (omega (arith, leb-true n (length tape) h, length-append tape more))

module _ (own room : ℕ) (tape more : List ℕ) where
  asked_stays : (e : Entry) → lies tape e ≡ true → asked own room (tape ++ more) e ≡ asked own room tape e
  asked_stays (Incremental from size) h = ap (incremental room) (span_stays from size tape more (leb-true (from + size) (length tape) h))
  asked_stays Join h = refl
  asked_stays Leave h = refl
  asked_stays (Snapshot from size) h = ap (snapshot own room) (span_stays from size tape more (leb-true (from + size) (length tape) h))
  asked_stays (Question i) h = refl

  all_stay : (es : List Entry) → within tape es ≡ true → map (asked own room (tape ++ more)) es ≡ map (asked own room tape) es
  all_stay [] h = refl
  all_stay (e ∷ es) h = let k = and_parts (lies tape e) (within tape es) h in ap₂ ◌∷◌ (asked_stays e k.0) (all_stay es k.1)

asked_new : (own room : ℕ) (tape : List ℕ) (x : DeskCall) → asked own room (tape ++ bytes_in x) (entry_at (length tape) x) ≡ request own room x
asked_new own room tape (calls.Incremental bytes) = ap (incremental room) (span_new tape _)
asked_new own room tape calls.Join = refl
asked_new own room tape calls.Leave = refl
asked_new own room tape (calls.Snapshot bytes) = ap (snapshot own room) (span_new tape _)
asked_new own room tape (calls.Question i) = refl

-- a call that was added stands behind the others
added : (own room : ℕ) (tape : List ℕ) (es : List Entry) (x : DeskCall) → within tape es ≡ true
    → map (asked own room (tape ++ bytes_in x)) (es ++ entry_at (length tape) x ∷ []) ≡ map (asked own room tape) es ++ request own room x ∷ []
added own room tape es x h =
    map-append (asked own room (tape ++ bytes_in x)) es (entry_at (length tape) x ∷ [])
    ∙ ap₂ ◌++◌ (all_stay own room tape (bytes_in x) es h) (ap (λ (y : Call). y ∷ []) (asked_new own room tape x))

module _ (tape more : List ℕ) where
  lies_more : (e : Entry) → lies tape e ≡ true → lies (tape ++ more) e ≡ true
  lies_more (Incremental from size) h = fits_more (from + size) tape more h
  lies_more Join h = refl
  lies_more Leave h = refl
  lies_more (Snapshot from size) h = fits_more (from + size) tape more h
  lies_more (Question i) h = refl

  within_push : (es : List Entry) (e : Entry) → within tape es ≡ true → lies (tape ++ more) e ≡ true → within (tape ++ more) (es ++ e ∷ []) ≡ true
  within_push [] e h k = ap₂ ◌&&◌ k refl
  within_push (y ∷ es) e h k = let p = and_parts (lies tape y) (within tape es) h in ap₂ ◌&&◌ (lies_more y p.0) (within_push es e p.1 k)

at_end : (tape more : List ℕ) → leb (length tape + length more) (length (tape ++ more)) ≡ true
at_end tape more = le-leb (length tape + length more) (length (tape ++ more)) (omega (arith, length-append tape more))

lies_new : (tape : List ℕ) (x : DeskCall) → lies (tape ++ bytes_in x) (entry_at (length tape) x) ≡ true
lies_new tape (calls.Incremental bytes) = at_end tape _
lies_new tape calls.Join = refl
lies_new tape calls.Leave = refl
lies_new tape (calls.Snapshot bytes) = at_end tape _
lies_new tape (calls.Question i) = refl

added-lies : (tape : List ℕ) (es : List Entry) (x : DeskCall) → within tape es ≡ true → within (tape ++ bytes_in x) (es ++ entry_at (length tape) x ∷ []) ≡ true
added-lies tape es x h = within_push tape (bytes_in x) es (entry_at (length tape) x) h (lies_new tape x)

-- a call whose bytes and entry were put behind the others
pub put : (tape tape' more was : List ℕ) (es before es' : List Entry) (e : Entry) (x : DeskCall) → within tape es ≡ true
    → tape' ≡ tape ++ more → more ≡ bytes_in x → es' ≡ before ++ e ∷ [] → before ≡ es → e ≡ entry_at (length was) x → was ≡ tape
    → (within tape' es' ≡ true) × ((own room : ℕ) → map (asked own room tape') es' ≡ map (asked own room tape) es ++ request own room x ∷ [])
put tape tape' more was es before es' e x h t₀ t₁ e₀ e₁ e₂ e₃ =
    let k : tape' ≡ tape ++ bytes_in x = t₀ ∙ ap (λ (y : List ℕ). tape ++ y) t₁ in
    let l : es' ≡ es ++ entry_at (length tape) x ∷ [] =
    e₀ ∙ ap₂ (λ (ys : List Entry) (y : Entry). ys ++ y ∷ []) e₁ (e₂ ∙ ap (λ (b : List ℕ). entry_at (length b) x) e₃) in
    (ap₂ within k l ∙ added-lies tape es x h, (λ own room. ap₂ (λ (b : List ℕ) (ys : List Entry). map (asked own room b) ys) k l ∙ added own room tape es x h))
