use Rattle.pddl_forms.specs.Limits.{predicate_limits}
use Rattle.pddl_forms.proofs.Least.{least-next}
use Rattle.pddl_forms.proofs.limits.least_of_predicates.Goals as goal

pub loop-predicate-preserved : goal.loop-predicate-preserved
loop-predicate-preserved c = least-next predicate_limits c.args.found c.loop-predicate.found c.least_of_predicate-found.result c.args.predicates.now c.loop-predicate.predicate-index c.predicate-item.result c.loop-predicate-test.true c.predicate-item.is c.loop-predicate.invariant c.least_of_predicate-found.ensures
