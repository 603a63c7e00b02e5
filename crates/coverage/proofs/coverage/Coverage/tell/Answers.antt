use Rattle.std.proofs.Common.{◌≡◌, ℕ, ◌<◌, ◌≤◌, subst, ap, rules, MatchResult}
use Rattle.coverage.specs.declared.shade.Shade.TheVariants.{Current}
use Rattle.coverage.specs.Bands.{band_at}
use Rattle.coverage.specs.Changes.{Passed}
use Rattle.coverage.specs.Shades.{level_of}
use Rattle.coverage.proofs.Ends.{beside_twice, passed_over}
use Rattle.coverage.proofs.coverage.Coverage.tell.Goals as goal

pub returns-in_ok-turn : goal.returns-in_ok-turn
returns-in_ok-turn c =
    let first = c.turn.ensures in
    let second = c.turn-then-eq.ensures in
    let A : ℕ → Type 0 =
    λ n. MatchResult c.turn-then-eq.result (λ _. c.args.slot < n) (λ e. (e.slot ≡ c.args.slot) × (n ≤ c.args.slot)) in
    record {
      answer = subst A first.beside.number second.answer;
      beside = beside_twice _ _ _ c.args.slot first.beside second.beside;
      passed =
          λ d in-range.
          let P : ℕ → Type 0 =
          λ next.
          Passed (band_at c.args.self.now c.args.slot d) (band_at c.turn-then-eq.new.self c.args.slot d) next c.args.heard (level_of c.args.shade) in
          subst P c.saturating_add-next.ensures
          (passed_over c.args.self.now c.turn.new.self c.turn-then-eq.new.self c.args.slot c.saturating_add-next.result c.args.heard (level_of c.args.shade)
          c.if-next-heard.true (let e : c.args.shade ≡ Current = search rules in ap level_of e) first.beside first.turned second.turned d in-range);
    }
