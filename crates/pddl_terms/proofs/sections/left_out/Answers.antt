use Rattle.std.proofs.Common.{◌∙◌, ap, ◌++◌}
use Rattle.pddl_terms.specs.Words.{is_left_out}
use Rattle.pddl_terms.specs.Sections.{place_if, left_out}
use Rattle.pddl_terms.proofs.Contents.{put_out, skipped, ended}
use Rattle.pddl_terms.proofs.Sectioning.{left_out-end, left_out-word, left_out-list}
use Rattle.pddl_terms.proofs.sections.left_out.Goals as goal

pub returns-in-End : goal.returns-in-End
returns-in-End c = ended left_out _ _ _ c.loop-out.invariant (left_out-end _ _ c.in-End.ensures)

pub loop-out-preserved-in-Word : goal.loop-out-preserved-in-Word
loop-out-preserved-in-Word c = skipped left_out _ _ _ _ c.loop-out.invariant (left_out-word _ _ _ c.in-Word.ensures.here)

pub loop-out-preserved : goal.loop-out-preserved
loop-out-preserved c = put_out left_out _ _ _ _ _ _ c.loop-out.invariant (left_out-list _ _ _ _ c.in-List.ensures.here)
    (c.in_ok-push_if-in-List.ensures ∙ ap (λ b. c.loop-out.out ++ place_if b c.in-List.token.at) (c.is_left_out-left.ensures ∙ ap is_left_out c.word_ahead.ensures))
