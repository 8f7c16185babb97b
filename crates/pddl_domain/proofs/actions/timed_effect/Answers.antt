use Rattle.std.proofs.Common.{◌∙◌, ap, Some}
use Rattle.pddl_domain.specs.Actions.{timed_effect_of}
use Rattle.pddl_domain.proofs.actions.timed_effect.Goals as goal

pub returns-in-None : goal.returns-in-None
returns-in-None c = ap timed_effect_of c.in-None.ensures

pub returns-in_ok-timed_eff_tree-in-Some : goal.returns-in_ok-timed_eff_tree-in-Some
returns-in_ok-timed_eff_tree-in-Some c = ap Some c.in_ok-timed_eff_tree-in-Some.ensures ∙ ap timed_effect_of c.in-Some.ensures
