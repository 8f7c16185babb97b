use Rattle.std.proofs.Common.{◌∙◌, ap, Some}
use Rattle.pddl_domain.specs.Actions.{condition_of}
use Rattle.pddl_domain.proofs.actions.condition.Goals as goal

pub returns-in-None : goal.returns-in-None
returns-in-None c = ap condition_of c.in-None.ensures

pub returns-in_ok-cond_tree-in-Some : goal.returns-in_ok-cond_tree-in-Some
returns-in_ok-cond_tree-in-Some c = ap Some c.in_ok-cond_tree-in-Some.ensures ∙ ap condition_of c.in-Some.ensures
