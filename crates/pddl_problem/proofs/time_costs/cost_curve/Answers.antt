use Rattle.std.proofs.Common.{◌∙◌, ap}
use Rattle.pddl_terms.specs.declared.files.CostCurve.TheVariants as curve
use Rattle.pddl_problem.proofs.Building.{cost_curve-end, cost_curve-word, cost_curve-list}
use Rattle.pddl_problem.proofs.time_costs.cost_curve.Goals as goal

pub returns-in-End : goal.returns-in-End
returns-in-End c = c.three.ensures ∙ cost_curve-end _ _ c.in-End.ensures

pub returns-in-Word : goal.returns-in-Word
returns-in-Word c = c.three-in-Word.ensures ∙ cost_curve-word _ _ _ c.in-Word.ensures.here

pub returns-in_ok-pieces-in-List : goal.returns-in_ok-pieces-in-List
returns-in_ok-pieces-in-List c = ap curve.Pieces c.in_ok-pieces-in-List.ensures ∙ cost_curve-list _ _ _ _ c.in-List.ensures.here
