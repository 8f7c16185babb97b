use Rattle.std.proofs.Common.{◌∙◌, ap, Some}
use Rattle.pddl_problem.specs.Metrics.{metric_of}
use Rattle.pddl_problem.proofs.metrics.metric.Goals as goal

pub returns-in-None : goal.returns-in-None
returns-in-None c = ap metric_of c.in-None.ensures

pub returns-in_ok-metric_tree-in-Some : goal.returns-in_ok-metric_tree-in-Some
returns-in_ok-metric_tree-in-Some c = ap Some c.in_ok-metric_tree-in-Some.ensures ∙ ap metric_of c.in-Some.ensures
