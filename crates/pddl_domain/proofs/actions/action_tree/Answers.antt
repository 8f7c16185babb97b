use Rattle.pddl_domain.proofs.Building.{whole-action}
use Rattle.pddl_domain.proofs.actions.action_tree.Goals as goal

pub returns : goal.returns
returns c = whole-action c.args.sort c.args.place _ _ _ _ c.in_ok-name.ensures c.in_ok-parameters.ensures c.in_ok-body.ensures
