use Rattle.std.proofs.Common.{arith}
use Rattle.plan_text.proofs.DigitNumbers.{number_after-more, number_after-past}
use Rattle.plan_text.proofs.digits.small_after.Goals as goal

pub returns-then-n : goal.returns-then-n
returns-then-n c fits =
    let more = number_after-more c.loop-b.n c.args.text.now c.loop-b.b-index c.loop-b-test.true in
    omega (arith, c.loop-b.invariant.left)

pub returns-then-n-gt-WIDE_LIMIT : goal.returns-then-n-gt-WIDE_LIMIT
returns-then-n-gt-WIDE_LIMIT c fits =
    let past = number_after-past c.loop-b.n c.args.text.now c.loop-b.b-index c.loop-b-test.true in
    omega (arith, c.loop-b.invariant.left, c.digit.ensures.value)
