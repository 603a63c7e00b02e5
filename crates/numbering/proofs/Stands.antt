-- A stream stands behind one number more.
use Rattle.std.proofs.Common.{◌≡◌, ℕ, ◌+◌, ◌-◌, ◌^◌, min, ◌||◌, eqb, List, ◌∷◌, length, sym, ap, ◌∙◌, arith}
use Rattle.numbering.specs.declared.stream.Stream.{Stream}
use Rattle.numbering.specs.declared.seen.Seen.{Seen}
use Rattle.numbering.specs.Answer.{Answer}
use Rattle.numbering.specs.Members.{has}
use Rattle.numbering.specs.Streams.{came_in, repeats, lates, Stands}
use Rattle.numbering.proofs.Notes.{repeated_by, late_by, grows, answer_like}

grown : (old new all more k : ℕ) → old ≡ min all (2 ^ 64 - 1) → new ≡ min (old + k) (2 ^ 64 - 1) → more ≡ all + k → new ≡ min more (2 ^ 64 - 1)
grown old new all more k e f g = omega arith

pub stands_after :
    (s t : Stream) (n : ℕ) (seen : Seen) (before : List ℕ) → Stands s before → Answer (has s.numbers) n seen
    → ((m : ℕ) → has t.numbers m ≡ (eqb m n || has s.numbers m))
    → t.packets ≡ min (s.packets + 1) (2 ^ 64 - 1)
    → t.repeated ≡ min (s.repeated + repeated_by seen) (2 ^ 64 - 1)
    → t.late ≡ min (s.late + late_by seen) (2 ^ 64 - 1)
    → Stands t (n ∷ before)
stands_after s t n seen before stands answer members packets repeated late =
    let grow = grows before n seen (answer_like (has s.numbers) (came_in before) n seen stands.members answer) in
    record {
      members = λ m. members m ∙ ap (λ b. eqb m n || b) (stands.members m);
      packets = grown s.packets t.packets (length before) (length (n ∷ before)) 1 stands.packets packets (omega arith);
      repeated = grown s.repeated t.repeated (repeats before) (repeats (n ∷ before)) (repeated_by seen) stands.repeated repeated grow.0;
      late = grown s.late t.late (lates before) (lates (n ∷ before)) (late_by seen) stands.late late grow.1;
    }

-- the same where a stream's parts are told by another's
pub stands_by :
    (s t u : Stream) (packets n : ℕ) (seen kind : Seen) (before : List ℕ) → Stands s before → Answer (has s.numbers) n seen → seen ≡ kind
    → ((m : ℕ) → has u.numbers m ≡ (eqb m n || has s.numbers m)) → t ≡ u
    → u.packets ≡ s.packets → packets ≡ min (t.packets + 1) (2 ^ 64 - 1)
    → u.repeated ≡ min (s.repeated + repeated_by kind) (2 ^ 64 - 1)
    → u.late ≡ min (s.late + late_by kind) (2 ^ 64 - 1)
    → Stands (record { numbers = t.numbers; packets = packets; repeated = t.repeated; late = t.late }) (n ∷ before)
stands_by s t u packets n seen kind before stands answer is members e same counted repeated late =
    stands_after s (record { numbers = t.numbers; packets = packets; repeated = t.repeated; late = t.late }) n seen before stands answer
    (λ m. ap (λ x. has x.numbers m) e ∙ members m)
    (omega (arith, counted, same, ap (λ x. x.packets) e))
    (ap (λ x. x.repeated) e ∙ (repeated ∙ ap (λ k. min (s.repeated + repeated_by k) (2 ^ 64 - 1)) (sym is)))
    (ap (λ x. x.late) e ∙ (late ∙ ap (λ k. min (s.late + late_by k) (2 ^ 64 - 1)) (sym is)))
