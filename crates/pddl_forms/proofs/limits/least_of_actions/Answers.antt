use Rattle.pddl_forms.specs.Limits.{action_limits}
use Rattle.pddl_forms.proofs.Least.{least-next}
use Rattle.pddl_forms.proofs.limits.least_of_actions.Goals as goal

pub loop-action-preserved : goal.loop-action-preserved
loop-action-preserved c = least-next action_limits c.args.found c.loop-action.found c.least_of_action-found.result c.args.actions.now c.loop-action.action-index c.action-item.result c.loop-action-test.true c.action-item.is c.loop-action.invariant c.least_of_action-found.ensures
