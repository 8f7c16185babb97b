use Rattle.std.proofs.Common.{refl, arith}
use Rattle.std.specs.Prelude.{slice_index}
use Rattle.plan_files.proofs.Counts.{count-too_large}
use Rattle.plan_files.proofs.order_lines.count_of.Goals as goal

pub returns-then-n-gt4294967295 : goal.returns-then-n-gt4294967295
returns-then-n-gt4294967295 c = count-too_large c.args.bytes.now c.loop-b.n c.loop-b.b-index (slice_index c.args.bytes.now c.loop-b.b-index) c.loop-b-test.true refl c.loop-b.invariant
    (omega (arith, c.digit.ensures.value, c.if-n-gt4294967295.true))
