-- The guarantee at a question follows from the guarantee over all runs.
use Rattle.std.proofs.Common.{◌≡◌, ℕ, ◌<◌, ◌≤◌, true, ◌⊎◌, List, sym, subst}
use Rattle.message.specs.declared.values.HeaderFields.{HeaderFields}
use Rattle.message.specs.Meaning.{Part}
use Rattle.store.specs.Kind.{Kind}
use Rattle.store.specs.Law.{ImageLaw}
use Rattle.recovery.specs.declared.answers.Sign.TheVariants.{Current}
use Rattle.recovery.specs.Shelf.{is_there}
use Rattle.recovery.specs.State.{Opening, State}
use Rattle.recovery.specs.Calls.{Call, step, after, shown}
use Rattle.recovery.specs.Guarantee.{Served, TakenIn}
use Rattle.recovery.specs.Present.{TrueBook, SameAsOthers, IsCurrent, Guaranteed}
use Rattle.recovery.proofs.Recovers.{true_books, same-reach, comes-current}

pub guaranteed : {V O : Type 0} (K : Kind V O) (Image : HeaderFields → List Part → V → Type 0) → ImageLaw K Image → (o : Opening) (s : State V O) (i : ℕ) → Guaranteed K o s i Image
guaranteed {V} {O} K Image law o s i P honest store cs served e w =
    subst (λ (x : State V O). TrueBook K o x i P × SameAsOthers K o x i P cs × IsCurrent K o x i P store cs) e (
      true_books K Image law P honest o store cs served i w,
      (λ o' store' cs' served' w'. same-reach K Image law P honest o o' store store' cs cs' served served' i w w'),
      (λ early c since split n ad all.
          subst (λ (x : List Call). Served K P o store x
          → ((k : ℕ) → n < k → k ≤ (after K o store x).plain.heard → (is_there ((after K o store early).plain.shelf k) ≡ true) ⊎ TakenIn K P o (step K o (after K o store early) c) since k)
          → (shown o (after K o store x) i).sign ≡ Current)
          (sym split) (λ served'' all''. comes-current K Image law P honest o store early c since served'' i n w ad all'') served all),
    )
