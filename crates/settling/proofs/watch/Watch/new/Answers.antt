use Rattle.std.proofs.Common.{◌≡◌, true, sym, subst}
use Rattle.recovery.specs.State.{distinct}
use Rattle.settling.specs.Slots.{Near}
use Rattle.settling.proofs.watch.Watch.new.Goals as goal

pub invariant_of-result : goal.invariant_of-result
invariant_of-result c =
    let e = sym c.copied.ensures.0 in
    record {
      few = c.requires.0;
      long = c.copied.ensures.1;
      hints = c.hints.ensures.1;
      apart = subst (λ w. distinct w ≡ true) e c.requires.1;
      near = subst (Near c.hints.result) e c.hints.ensures.0;
    }
