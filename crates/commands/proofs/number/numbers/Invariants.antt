use Rattle.commands.specs.Decimal.{numbers_of}
use Rattle.commands.proofs.Numbers.{Left}
use Rattle.commands.proofs.number.numbers.Given as goal

abbrev pub invariant-loop-word : goal.invariant-loop-word
invariant-loop-word l = Left (goal.iterator-loop-word).next_gives (λ x. x.now) l.numbers.items l.word-iterator (numbers_of l.fn.separator l.fn.text)
