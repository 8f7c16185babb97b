use Rattle.std.proofs.Common.{◌∙◌, ap, ◌++◌, ◌∷◌, []}
use Rattle.pddl_terms.proofs.Contents.{pushed, skipped, ended}
use Rattle.pddl_problem.specs.TimeCosts.{pieces}
use Rattle.pddl_problem.proofs.Building.{pieces-end, pieces-word, pieces-list}
use Rattle.pddl_problem.proofs.time_costs.pieces.Goals as goal

pub returns-in-End : goal.returns-in-End
returns-in-End c = ended pieces _ _ _ c.loop-out.invariant (pieces-end _ _ c.in-End.ensures)

pub loop-out-preserved-in-Word : goal.loop-out-preserved-in-Word
loop-out-preserved-in-Word c = skipped pieces _ _ _ _ c.loop-out.invariant (pieces-word _ _ _ c.in-Word.ensures.here)

pub loop-out-preserved : goal.loop-out-preserved
loop-out-preserved c = pushed pieces _ _ _ _ _ _ c.loop-out.invariant (pieces-list _ _ _ _ c.in-List.ensures.here)
    (c.in_ok-push-in-List.ensures.ok ∙ ap (λ x. c.loop-out.out ++ x ∷ []) c.piece_list.ensures)
