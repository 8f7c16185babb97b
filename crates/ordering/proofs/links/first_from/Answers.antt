use Rattle.std.proofs.Common.{arith, ap, ◌∙◌}
use Rattle.ordering.proofs.Meetings.{rest_from, link_other}
use Rattle.ordering.proofs.links.first_from.Goals as goal

pub loop-at-preserved : goal.loop-at-preserved
loop-at-preserved c = record {
  within = omega arith;
  skipped = λ n t h. c.loop-at.invariant.skipped n t h ∙ link_other n c.loop-at.at t c.args.touches.now c.index-touches-at.result c.loop-at-test.true c.index-touches-at.is (omega (arith, ap (λ x. x.0) c.index-touches-at.is));
}

pub returns-else-number-token-clause-rest : goal.returns-else-number-token-clause-rest
returns-else-number-token-clause-rest c = rest_from c.args.token c.loop-at.at c.args.touches.now c.index-touches-at.result c.requires.ascending c.loop-at-test.true c.index-touches-at.is (omega (arith, ap (λ x. x.0) c.index-touches-at.is))
