use Rattle.std.proofs.Common.{[], take, drop, sym, ap, ◌∙◌, arith}
use native.Mathlib.Numerals.{unary_clauses}
use Rattle.std.proofs.lemmas.List.{length-drop, take_all, take_rest, drop_all}
use Rattle.replay.proofs.taping.part.Goals as goal

pub returns-then-from-tape : goal.returns-then-from-tape
returns-then-from-tape c = sym (ap (take c.args.size) (drop_all c.args.from c.args.tape.now (omega arith)) ∙ take_all c.args.size [] (omega arith))

pub returns-then-size-rest : goal.returns-then-size-rest
returns-then-size-rest c =
    take_rest c.args.tape.now c.args.from ∙ sym (take_all c.args.size (drop c.args.from c.args.tape.now) (omega (arith, length-drop c.args.from c.args.tape.now)))

pub returns : goal.returns
returns c = simp unary_clauses (ap (take c.args.size) (take_rest c.args.tape.now c.args.from))
