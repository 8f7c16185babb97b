use Rattle.grounder.specs.ShownGrounding.{ground_of}
use Rattle.grounder.proofs.MomentSteps.{literals-more}
use Rattle.grounder.proofs.moments.literals_at.Goals as goal

pub loop-timing-preserved : goal.loop-timing-preserved
loop-timing-preserved c =
    literals-more (ground_of c.args.grounding.now) c.args.moment c.args.holds c.args.timings.now c.loop-timing.timing-index c.timing-item.result c.loop-timing.out c.push_literal_at.new.out
    c.loop-timing-test.true c.timing-item.is c.loop-timing.invariant c.in_ok-push_literal_at.ensures
