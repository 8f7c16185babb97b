use Rattle.pddl_names.specs.Files.{action_offences}
use Rattle.pddl_names.proofs.Least.{least-loop}
use Rattle.pddl_names.proofs.domains.first_in_each_action.Goals as goal

pub loop-action-preserved : goal.loop-action-preserved
loop-action-preserved c = least-loop (action_offences c.args.phase c.args.tables.now) _ _ c.action-item.result _ _ _ c.loop-action-test.true c.action-item.is c.loop-action.invariant c.earlier-found.ensures c.in_ok-other.ensures
