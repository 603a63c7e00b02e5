-- A row of calls, call by call: what is left of it leads where the whole row leads from the start.
use Rattle.std.proofs.Common.{◌≡◌, ℕ, true, List, [], ◌∷◌, ◌++◌, is_err, Ok, Err, Result, sym, refl, ap, ◌∙◌, subst, true≢false, append_assoc, append-nil}
use Rattle.message.specs.declared.values.HeaderFields.{HeaderFields}
use Rattle.message.specs.Meaning.{Part}
use Rattle.store.specs.Kind.{Kind}
use Rattle.recovery.specs.State.{Opening, State}
use Rattle.recovery.specs.Calls.{Call, step, run, after}
use Rattle.recovery.specs.Present.{Guaranteed}
use Rattle.replay.specs.declared.call.Call.{Call as DeskCall}
use Rattle.replay.specs.declared.call.Answer.{Answer}
use Rattle.replay.specs.Requests.{request, shelf_then}
use Rattle.replay.specs.Replies.{reply}
use Rattle.replay.specs.Rows.{requests, done, replies, shelf_along}
use Rattle.replay.specs.Histories.{Continues, Recovers}

module _ {V O : Type 0} (K : Kind V O) (o : Opening) (own room : ℕ) (s t : State V O) (shelf then : List ℕ) (told more : List Answer) where
  -- a call leads from one state, shelf and row of answers to the next
  abbrev pub Steps : DeskCall → Type 0
  Steps x = (more ≡ told ++ reply K o s (request own room x) ∷ []) × (t ≡ step K o s (request own room x)) × (then ≡ shelf_then o s.plain (request own room x) shelf)

module _ {V O : Type 0} (K : Kind V O) (o : Opening) (own room : ℕ) (s₀ : State V O) (shelf₀ : List ℕ) (told₀ : List Answer) (row₀ : List DeskCall) where
  -- from the state s on, with these bytes on the shelf and these answers given, the row leads where the whole row leads from the start
  abbrev pub Leads : State V O → List ℕ → List Answer → List DeskCall → Type 0
  Leads s shelf told row =
      (run K o s (requests own room row) ≡ run K o s₀ (requests own room row₀))
      × (shelf_along K o s (requests own room row) shelf ≡ shelf_along K o s₀ (requests own room row₀) shelf₀)
      × (told ++ replies K o s (requests own room row) ≡ told₀ ++ replies K o s₀ (requests own room row₀))

  past : (s : State V O) (shelf : List ℕ) (told : List Answer) (x : DeskCall) (row : List DeskCall) → Leads s shelf told (x ∷ row)
      → Leads (step K o s (request own room x)) (shelf_then o s.plain (request own room x) shelf) (told ++ reply K o s (request own room x) ∷ []) row
  past s shelf told x row h =
      (h.0, h.1, append_assoc told (reply K o s (request own room x) ∷ []) (replies K o (step K o s (request own room x)) (requests own room row)) ∙ h.2)

  -- a call that was performed
  pub leads_more : (s t : State V O) (shelf then : List ℕ) (told more : List Answer) (x : DeskCall) (all row : List DeskCall)
      → all ≡ x ∷ row → Leads s shelf told all → Steps K o own room s t shelf then told more x → Leads t then more row
  leads_more s t shelf then told more x all row e h p =
      let q : Call = request own room x in
      let h₀ = past s shelf told x row (subst (λ (y : List DeskCall). Leads s shelf told y) e h) in
      let h₁ = subst (λ (y : List Answer). Leads (step K o s q) (shelf_then o s.plain q shelf) y row) (sym p.0) h₀ in
      let h₂ = subst (λ (y : List ℕ). Leads (step K o s q) y more row) (sym p.2) h₁ in
      subst (λ (y : State V O). Leads y then more row) (sym p.1) h₂

  -- the end of the row
  pub leads_all : (s : State V O) (shelf : List ℕ) (told : List Answer) (row : List DeskCall) → row ≡ [] → Leads s shelf told row
      → (s ≡ run K o s₀ (requests own room row₀)) × (shelf ≡ shelf_along K o s₀ (requests own room row₀) shelf₀) × (told ≡ told₀ ++ replies K o s₀ (requests own room row₀))
  leads_all s shelf told row e h =
      let k = subst (λ (y : List DeskCall). Leads s shelf told y) e h in
      (k.0, k.1, sym (append-nil told) ∙ k.2)

-- no call of a row is performed where that is refused
pub none_done : {E : Type 0} (r : Result (Unit {0}) E) (row : List DeskCall) → is_err r ≡ true → done r row ≡ []
none_done (Ok x) row h = absurd (true≢false (sym h))
none_done (Err e) row h = refl

module _ {V O : Type 0} (K : Kind V O) (o : Opening) where
  run-append : (s : State V O) (xs ys : List Call) → run K o s (xs ++ ys) ≡ run K o (run K o s xs) ys
  run-append s [] ys = refl
  run-append s (x ∷ xs) ys = run-append (step K o s x) xs ys

  -- a run goes on from where earlier calls have led
  pub continues : (s t : State V O) (row : List Call) → t ≡ run K o s row → Continues K o s t row
  continues s t row e store earlier h = run-append (after K o store []) earlier row ∙ ap (λ (x : State V O). run K o x row) h ∙ sym e

  pub recovers : (Image : HeaderFields → List Part → V → Type 0) (s t : State V O) (row : List Call) → t ≡ run K o s row
      → ((i : ℕ) → Guaranteed K o t i Image) → Recovers K o s t row Image
  recovers Image s t row e guarantee P honest store earlier h served i w =
      guarantee i P honest store (earlier ++ row) served (continues s t row e store earlier h) w
