use Rattle.std.proofs.Common.{◌∙◌, ap, ◌++◌}
use Rattle.pddl_terms.proofs.Contents.{put_out, skipped, ended}
use Rattle.pddl_terms.specs.Domains.{domain_head}
use Rattle.pddl_terms.proofs.Building.{both}
use Rattle.pddl_domain.specs.Actions.{as_action, actions}
use Rattle.pddl_domain.proofs.Building.{actions-end, actions-word, actions-list}
use Rattle.pddl_domain.proofs.actions.actions.Goals as goal

pub returns-in-End : goal.returns-in-End
returns-in-End c = ended actions _ _ _ c.loop-out.invariant (actions-end _ _ c.in-End.ensures)

pub loop-out-preserved-in-Word : goal.loop-out-preserved-in-Word
loop-out-preserved-in-Word c = skipped actions _ _ _ _ c.loop-out.invariant (actions-word _ _ _ c.in-Word.ensures.here)

pub loop-out-preserved : goal.loop-out-preserved
loop-out-preserved c = put_out actions _ _ _ _ _ _ c.loop-out.invariant (actions-list _ _ _ _ c.in-List.ensures.here)
    (c.in_ok-push_action-in-List.ensures ∙ both (λ h y. c.loop-out.out ++ as_action h c.in-List.token.at y) (c.domain_head-head.ensures ∙ ap domain_head c.word_ahead.ensures) c.next.ensures.behind)
