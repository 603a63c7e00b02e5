use Rattle.std.proofs.Common.{refl, arith}
use Rattle.numbering.specs.declared.seen.Seen.TheVariants.{New, Repeated, Late}
use Rattle.numbering.proofs.Stands.{stands_by}
use Rattle.numbering.proofs.stream.Stream.note.Goals as goal
use Rattle.numbering.proofs.stream.Stream.note.Goals.{in-New, in-Repeated, in-Late}

pub returns : goal.returns
returns c = λ before stands.
    let answer = c.in_ok-note.ensures.answer in
    let members = c.in_ok-note.ensures.members in
    elim c.match-branch-2.branch [
      | in-New w ↦
          stands_by c.args.self.now c.match-branch-2.self _ _ c.args.n _ New before stands answer w.in-New.is members w.self-is refl c.saturating_add-self-2.ensures
          (omega (arith, stands.repeated)) (omega (arith, stands.late))
      | in-Repeated w ↦
          stands_by c.args.self.now c.match-branch-2.self _ _ c.args.n _ Repeated before stands answer w.in-Repeated.is members w.self-is refl c.saturating_add-self-2.ensures
          w.saturating_add-self.ensures (omega (arith, stands.late))
      | in-Late w ↦
          stands_by c.args.self.now c.match-branch-2.self _ _ c.args.n _ Late before stands answer w.in-Late.is members w.self-is refl c.saturating_add-self-2.ensures
          (omega (arith, stands.repeated)) w.saturating_add-self-in-Late.ensures
    ]
