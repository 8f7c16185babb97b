use Rattle.std.proofs.Common.{◌∙◌, ap, ◌++◌, ◌∷◌, []}
use Rattle.pddl_terms.proofs.Contents.{pushed, skipped, ended}
use Rattle.pddl_problem.specs.Entries.{entries}
use Rattle.pddl_problem.proofs.Building.{entries-end, entries-word, entries-list}
use Rattle.pddl_problem.proofs.entries.entries.Goals as goal

pub returns-in-End : goal.returns-in-End
returns-in-End c = ended entries _ _ _ c.loop-out.invariant (entries-end _ _ c.in-End.ensures)

pub loop-out-preserved-in-Word : goal.loop-out-preserved-in-Word
loop-out-preserved-in-Word c = skipped entries _ _ _ _ c.loop-out.invariant (entries-word _ _ _ c.in-Word.ensures.here)

pub loop-out-preserved : goal.loop-out-preserved
loop-out-preserved c = pushed entries _ _ _ _ _ _ c.loop-out.invariant (entries-list _ _ _ _ c.in-List.ensures.here)
    (c.in_ok-push-in-List.ensures.ok ∙ ap (λ x. c.loop-out.out ++ x ∷ []) c.in_ok-entry_list-in-List.ensures)
