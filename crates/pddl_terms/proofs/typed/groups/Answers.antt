use Rattle.std.proofs.Common.{◌∙◌, sym, ap, ◌+◌, ◌++◌, ◌∷◌, []}
use Rattle.pddl_terms.specs.Content.{content_at}
use Rattle.pddl_terms.specs.Typed.{groups}
use Rattle.pddl_terms.proofs.Contents.{skipped}
use Rattle.pddl_terms.proofs.Building.{groups-end, groups-list, groups-listed, grouped}
use Rattle.pddl_terms.proofs.typed.groups.Goals as goal

pub returns-in-End : goal.returns-in-End
returns-in-End c = c.in_ok-push_group-in-End.ensures ∙ ap (λ g. c.loop-out.out ++ g) (sym (groups-end _ c.loop-out.before _ _ c.in-End.ensures)) ∙ c.loop-out.invariant

pub loop-out-preserved-in-List : goal.loop-out-preserved-in-List
loop-out-preserved-in-List c = skipped (groups c.args.of c.loop-out.before) _ _ _ _ c.loop-out.invariant (groups-list _ _ _ _ _ _ c.in-List.ensures.here)

pub loop-out-preserved-in_ok-push-in-Word : goal.loop-out-preserved-in_ok-push-in-Word
loop-out-preserved-in_ok-push-in-Word c = ap (λ b. c.loop-out.out ++ groups c.args.of b (content_at c.args.forms.now (c.loop-out.at + 1)))
    (c.in_ok-push-in-Word.ensures.ok ∙ ap (λ n. c.loop-out.before ++ n ∷ []) c.in_ok-name_of-in-Word.ensures)
    ∙ ap (λ g. c.loop-out.out ++ g) (sym (groups-listed _ c.loop-out.before _ _ _ c.in-Word.ensures.here (sym c.is_listed.ensures ∙ c.if-is_listed.true))) ∙ c.loop-out.invariant

pub loop-out-preserved : goal.loop-out-preserved
loop-out-preserved c = grouped c.args.of c.loop-out.before _ _ _ _ _ _ _ _ _ c.loop-out.invariant c.in-Word.ensures.here (sym c.is_listed.ensures ∙ c.if-is_listed.false)
    c.in_ok-push_group-in-Word.ensures c.in_ok-type_name-in-Word.ensures c.new-before-else-is_listed.ensures c.next-at.ensures.behind
