use Rattle.std.proofs.Common.{◌≡◌, ℕ, List, length, get_or, codes, ap, arith, rules}
use Rattle.sheet_text.proofs.Words.{spelled}
use Rattle.commands.proofs.Words.{lookup_none}
use Rattle.options.specs.Words.{settings}
use Rattle.options.proofs.words.setting_of.Goals as goal

pub returns-in-45 : goal.returns-in-45
returns-in-45 c = let e : c.args.word.now ≡ codes "--channel" = spelled (codes "--channel") _ (search rules) in rw e

pub returns-in-45-2 : goal.returns-in-45-2
returns-in-45-2 c = let e : c.args.word.now ≡ codes "--version" = spelled (codes "--version") _ (search rules) in rw e

pub returns-in-45-3 : goal.returns-in-45-3
returns-in-45-3 c = let e : c.args.word.now ≡ codes "--incremental" = spelled (codes "--incremental") _ (search rules) in rw e

pub returns-in-45-4 : goal.returns-in-45-4
returns-in-45-4 c = let e : c.args.word.now ≡ codes "--snapshot" = spelled (codes "--snapshot") _ (search rules) in rw e

pub returns-in-45-5 : goal.returns-in-45-5
returns-in-45-5 c = let e : c.args.word.now ≡ codes "--watch" = spelled (codes "--watch") _ (search rules) in rw e

pub returns-in-45-6 : goal.returns-in-45-6
returns-in-45-6 c = let e : c.args.word.now ≡ codes "--depth" = spelled (codes "--depth") _ (search rules) in rw e

pub returns-in-45-7 : goal.returns-in-45-7
returns-in-45-7 c = let e : c.args.word.now ≡ codes "--out" = spelled (codes "--out") _ (search rules) in rw e

pub returns-in-45-8 : goal.returns-in-45-8
returns-in-45-8 c = let e : c.args.word.now ≡ codes "--coverage" = spelled (codes "--coverage") _ (search rules) in rw e

pub returns-in_default-13 : goal.returns-in_default-13
returns-in_default-13 c = lookup_none settings c.args.word.now (
  (λ e. let long = ap length e in absurd (omega arith)),
  (
    (λ e. let long = ap length e in absurd (omega arith)),
    (
      (λ e. let long = ap length e in absurd (omega arith)),
      (
        (λ e. let long = ap length e in absurd (omega arith)),
        (
          (λ e. let at = ap (λ (w : List ℕ). get_or w 2 0) e in absurd (omega arith)),
          (
            (λ e. let at = ap (λ (w : List ℕ). get_or w 5 0) e in absurd (omega arith)),
            (
              (λ e. let long = ap length e in absurd (omega arith)),
              (
                (λ e. let long = ap length e in absurd (omega arith)),
                tt,
              ),
            ),
          ),
        ),
      ),
    ),
  ),
)

pub returns-in_default-35 : goal.returns-in_default-35
returns-in_default-35 c = lookup_none settings c.args.word.now (
  (λ e. let long = ap length e in absurd (omega arith)),
  (
    (λ e. let long = ap length e in absurd (omega arith)),
    (
      (λ e. let long = ap length e in absurd (omega arith)),
      (
        (λ e. let at = ap (λ (w : List ℕ). get_or w 9 0) e in absurd (omega arith)),
        (
          (λ e. let long = ap length e in absurd (omega arith)),
          (
            (λ e. let long = ap length e in absurd (omega arith)),
            (
              (λ e. let long = ap length e in absurd (omega arith)),
              (
                (λ e. let at = ap (λ (w : List ℕ). get_or w 2 0) e in absurd (omega arith)),
                tt,
              ),
            ),
          ),
        ),
      ),
    ),
  ),
)

pub returns-in_default-55 : goal.returns-in_default-55
returns-in_default-55 c = lookup_none settings c.args.word.now (
  (λ e. let long = ap length e in absurd (omega arith)),
  (
    (λ e. let long = ap length e in absurd (omega arith)),
    (
      (λ e. let at = ap (λ (w : List ℕ). get_or w 10 0) e in absurd (omega arith)),
      (
        (λ e. let long = ap length e in absurd (omega arith)),
        (
          (λ e. let long = ap length e in absurd (omega arith)),
          (
            (λ e. let long = ap length e in absurd (omega arith)),
            (
              (λ e. let long = ap length e in absurd (omega arith)),
              (
                (λ e. let long = ap length e in absurd (omega arith)),
                tt,
              ),
            ),
          ),
        ),
      ),
    ),
  ),
)
