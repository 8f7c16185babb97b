use Rattle.grounder.proofs.MomentSteps.{numbers-more}
use Rattle.grounder.proofs.moments.timed_numbers.Goals as goal

pub loop-place-preserved : goal.loop-place-preserved
loop-place-preserved c =
    numbers-more c.args.first c.args.moments.now c.loop-place.place c.index-moments-place.result c.loop-place-test.true c.index-moments-place.is c.loop-place.out c.push.new.self
    c.of.result c.of.ensures c.loop-place.invariant c.in_ok-push.ensures.ok
