use Rattle.std.proofs.Common.{◌∙◌, ap, ◌++◌, ◌∷◌, []}
use Rattle.pddl_terms.proofs.Contents.{pushed, skipped, ended}
use Rattle.pddl_domain.specs.Domains.{declarations}
use Rattle.pddl_domain.proofs.Building.{declarations-end, declarations-word, declarations-list}
use Rattle.pddl_domain.proofs.declarations.declarations.Goals as goal

pub returns-in-End : goal.returns-in-End
returns-in-End c = ended declarations _ _ _ c.loop-out.invariant (declarations-end _ _ c.in-End.ensures)

pub loop-out-preserved-in-Word : goal.loop-out-preserved-in-Word
loop-out-preserved-in-Word c = skipped declarations _ _ _ _ c.loop-out.invariant (declarations-word _ _ _ c.in-Word.ensures.here)

pub loop-out-preserved : goal.loop-out-preserved
loop-out-preserved c = pushed declarations _ _ _ _ _ _ c.loop-out.invariant (declarations-list _ _ _ _ c.in-List.ensures.here)
    (c.in_ok-push-in-List.ensures.ok ∙ ap (λ x. c.loop-out.out ++ x ∷ []) c.in_ok-declared_list-in-List.ensures)
