use Rattle.std.proofs.Common.{◌∙◌, ap, ◌++◌, ◌∷◌, []}
use Rattle.pddl_terms.specs.Sections.{names}
use Rattle.pddl_terms.proofs.Contents.{pushed, skipped, ended}
use Rattle.pddl_terms.proofs.Sectioning.{names-end, names-word, names-list}
use Rattle.pddl_terms.proofs.sections.names.Goals as goal

pub returns-in-End : goal.returns-in-End
returns-in-End c = ended names _ _ _ c.loop-out.invariant (names-end _ _ c.in-End.ensures)

pub loop-out-preserved : goal.loop-out-preserved
loop-out-preserved c = pushed names _ _ _ _ _ _ c.loop-out.invariant (names-word _ _ _ c.in-Word.ensures.here)
    (c.in_ok-push-in-Word.ensures.ok ∙ ap (λ x. c.loop-out.out ++ x ∷ []) c.in_ok-name_of-in-Word.ensures)

pub loop-out-preserved-in-List : goal.loop-out-preserved-in-List
loop-out-preserved-in-List c = skipped names _ _ _ _ c.loop-out.invariant (names-list _ _ _ _ c.in-List.ensures.here)
