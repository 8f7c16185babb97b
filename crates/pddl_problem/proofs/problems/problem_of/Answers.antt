use Rattle.std.proofs.Common.{◌∙◌}
use Rattle.pddl_problem.proofs.Building.{whole-problem}
use Rattle.pddl_problem.proofs.problems.problem_of.Goals as goal

pub returns : goal.returns
returns c = whole-problem _ _ c.in_ok-name.ensures.name c.in_ok-name.ensures.domain c.in_ok-requirements.ensures.requirements
    c.in_ok-requirements.ensures.objects c.in_ok-init.ensures.init (c.into_inner.ensures ∙ c.in_ok-goal.ensures) c.in_ok-constraints.ensures
    c.in_ok-init.ensures.costs c.in_ok-metric.ensures.metric c.in_ok-metric.ensures.left
