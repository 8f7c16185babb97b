use Rattle.std.proofs.Common.{◌≡◌, sym, ap, subst, ◌∙◌, OnOk}
use Rattle.task_types.specs.declared.conditions.Condition.{Condition}
use Rattle.ground_world.specs.Shown.{part_of}
use Rattle.grounder.specs.ShownGrounding.{ground_of}
use Rattle.grounder.specs.Building.{with_parts}
use Rattle.grounder.proofs.Pushing.{at_stage, off_stage}
use Rattle.grounder.proofs.BuildingSteps.{one-part, no-part}
use Rattle.grounder.proofs.action_conditions.push_part_at.Goals as goal

pub returns-then-is_same_stage : goal.returns-then-is_same_stage
returns-then-is_same_stage c =
    let g = ground_of c.args.grounding.now in
    let old = c.args.condition.now in
    let p = part_of c.args.part.now in
    subst (λ (d : Condition). OnOk c.push_part.result (c.push_part.new.condition ≡ d))
    (one-part g old p ∙ ap (with_parts g old) (sym (at_stage c.args.stage.now c.args.own.now p (sym c.is_same_stage.ensures ∙ c.if-is_same_stage.true)))) c.push_part.ensures

pub returns-else-is_same_stage : goal.returns-else-is_same_stage
returns-else-is_same_stage c =
    let g = ground_of c.args.grounding.now in
    let old = c.args.condition.now in
    let p = part_of c.args.part.now in
    no-part g old ∙ ap (with_parts g old) (sym (off_stage c.args.stage.now c.args.own.now p (sym c.is_same_stage.ensures ∙ c.if-is_same_stage.false)))
