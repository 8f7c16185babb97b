use Rattle.std.proofs.Common.{◌∙◌, ap, ◌++◌, ◌∷◌, []}
use Rattle.pddl_terms.proofs.Contents.{pushed, skipped, ended}
use Rattle.pddl_problem.specs.TimeCosts.{costs}
use Rattle.pddl_problem.proofs.Building.{costs-end, costs-word, costs-list}
use Rattle.pddl_problem.proofs.time_costs.costs.Goals as goal

pub returns-in-End : goal.returns-in-End
returns-in-End c = ended costs _ _ _ c.loop-out.invariant (costs-end _ _ c.in-End.ensures)

pub loop-out-preserved-in-Word : goal.loop-out-preserved-in-Word
loop-out-preserved-in-Word c = skipped costs _ _ _ _ c.loop-out.invariant (costs-word _ _ _ c.in-Word.ensures.here)

pub loop-out-preserved : goal.loop-out-preserved
loop-out-preserved c = pushed costs _ _ _ _ _ _ c.loop-out.invariant (costs-list _ _ _ _ c.in-List.ensures.here)
    (c.in_ok-push-in-List.ensures.ok ∙ ap (λ x. c.loop-out.out ++ x ∷ []) c.in_ok-cost_list-in-List.ensures)
