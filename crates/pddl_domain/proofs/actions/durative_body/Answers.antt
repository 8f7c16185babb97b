use Rattle.pddl_domain.proofs.Building.{whole-durative}
use Rattle.pddl_domain.proofs.Holding.{given_up}
use Rattle.pddl_domain.proofs.actions.durative_body.Goals as goal

pub returns : goal.returns
returns c = whole-durative _ _ _ _ c.in_ok-duration.ensures (given_up _ _ _ _ c.pop.ensures c.in_ok-condition.ensures) c.in_ok-effect.ensures
