use Rattle.std.proofs.Common.{◌∙◌, ap, ◌++◌, ◌∷◌, []}
use Rattle.pddl_terms.specs.Typed.{terms}
use Rattle.pddl_terms.proofs.Contents.{pushed, skipped, ended}
use Rattle.pddl_terms.proofs.Building.{terms-end, terms-word, terms-list}
use Rattle.pddl_terms.proofs.typed.terms.Goals as goal

pub returns-in-End : goal.returns-in-End
returns-in-End c = ended terms _ _ _ c.loop-out.invariant (terms-end _ _ c.in-End.ensures)

pub loop-out-preserved-in-Word : goal.loop-out-preserved-in-Word
loop-out-preserved-in-Word c = pushed terms _ _ _ _ _ _ c.loop-out.invariant (terms-word _ _ _ c.in-Word.ensures.here)
    (c.in_ok-push-in-Word.ensures.ok ∙ ap (λ x. c.loop-out.out ++ x ∷ []) c.in_ok-term_of-in-Word.ensures)

pub loop-out-preserved : goal.loop-out-preserved
loop-out-preserved c = skipped terms _ _ _ _ c.loop-out.invariant (terms-list _ _ _ _ c.in-List.ensures.here)
