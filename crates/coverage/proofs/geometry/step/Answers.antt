use Rattle.std.proofs.Common.{◌+◌, inr, arith}
use Rattle.coverage.proofs.Rounds.{eleven_times, step_two, step_five, next_ten, after_five}
use Rattle.coverage.proofs.geometry.step.Goals as goal

pub overflow_mul-ten : goal.overflow_mul-ten
overflow_mul-ten c = omega (arith, eleven_times c.args.n c.loop-ten.ten c.loop-ten-test.true)

pub overflow_mul-result : goal.overflow_mul-result
overflow_mul-result c = omega (arith, eleven_times c.args.n c.loop-ten.ten c.loop-ten-test.true)

pub returns-then-n-ten-le10 : goal.returns-then-n-ten-le10
returns-then-n-ten-le10 c = step_two c.args.n c.loop-ten.ten c.loop-ten.invariant.1 c.loop-ten-test.true (omega arith)

pub overflow_mul-ten-in-loop-ten : goal.overflow_mul-ten-in-loop-ten
overflow_mul-ten-in-loop-ten c = omega (arith, eleven_times c.args.n c.loop-ten.ten c.loop-ten-test.true)

pub overflow_mul-result-then-n-ten-le10-2 : goal.overflow_mul-result-then-n-ten-le10-2
overflow_mul-result-then-n-ten-le10-2 c = omega (arith, eleven_times c.args.n c.loop-ten.ten c.loop-ten-test.true)

pub returns-then-n-ten-le10-2 : goal.returns-then-n-ten-le10-2
returns-then-n-ten-le10-2 c = step_five c.args.n c.loop-ten.ten c.loop-ten.invariant.1 (omega arith) (omega arith)

pub overflow_mul-ten-in-loop-ten-2 : goal.overflow_mul-ten-in-loop-ten-2
overflow_mul-ten-in-loop-ten-2 c = omega (arith, eleven_times c.args.n c.loop-ten.ten c.loop-ten-test.true)

pub loop-ten-smaller : goal.loop-ten-smaller
loop-ten-smaller c = omega (arith, eleven_times c.args.n c.loop-ten.ten c.loop-ten-test.true, c.loop-ten.invariant.0)

pub loop-ten-preserved : goal.loop-ten-preserved
loop-ten-preserved c =
    let power = c.loop-ten.invariant.1 in
    (omega (arith, c.loop-ten.invariant.0), (power.0 + 1, next_ten c.loop-ten.ten power), inr (after_five c.args.n c.loop-ten.ten power (omega arith)))
