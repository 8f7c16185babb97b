use Rattle.std.proofs.Common.{◌∙◌, sym, ap}
use Rattle.task_types.specs.Tests.{◌=?◌}
use Rattle.timed_meaning.proofs.Left.{run-stops, run-goes}
use Rattle.timed_meaning.proofs.times.run_length.Goals as goal

pub returns-then-not-is_same-clause-value : goal.returns-then-not-is_same-clause-value
returns-then-not-is_same-clause-value c = run-stops c.args.time c.args.steps.now c.loop-i.i c.index-steps-i.result c.loop-i-test.true c.index-steps-i.is
    (ap (λ q. q =? c.args.time) (sym c.time.ensures) ∙ sym c.is_same.ensures ∙ c.if-not-is_same.true) c.loop-i.invariant

pub loop-i-preserved : goal.loop-i-preserved
loop-i-preserved c = run-goes c.args.time c.args.steps.now c.loop-i.i c.index-steps-i.result c.loop-i-test.true c.index-steps-i.is
    (ap (λ q. q =? c.args.time) (sym c.time.ensures) ∙ sym c.is_same.ensures ∙ c.if-not-is_same.false) c.loop-i.invariant
