use Rattle.std.proofs.Common.{◌≡◌, sym, ap, subst, ◌∙◌, OnOk}
use Rattle.task_types.specs.declared.conditions.Effect.{Effect}
use Rattle.ground_world.specs.Shown.{env_of}
use Rattle.ground_world.specs.ShownChanges.{change_of}
use Rattle.grounder.specs.ShownGrounding.{ground_of}
use Rattle.grounder.specs.Building.{with_changes}
use Rattle.grounder.proofs.Pushing.{at_stage, off_stage}
use Rattle.grounder.proofs.BuildingSteps.{one-change, no-change}
use Rattle.grounder.proofs.action_effects.push_change_at.Goals as goal

pub returns-then-is_same_stage : goal.returns-then-is_same_stage
returns-then-is_same_stage c =
    let g = ground_of c.args.grounding.now in
    let e = env_of c.args.env.now in
    let old = c.args.effect.now in
    let x = c.args.staged.now in
    subst (λ (d : Effect). OnOk c.push_change.result (c.push_change.new.effect ≡ d))
    (one-change g c.args.durative e old (change_of x.change)
    ∙ ap (with_changes g c.args.durative e old) (sym (at_stage c.args.stage.now x.stage (change_of x.change) (sym c.is_same_stage.ensures ∙ c.if-is_same_stage.true)))) c.push_change.ensures

pub returns-else-is_same_stage : goal.returns-else-is_same_stage
returns-else-is_same_stage c =
    let g = ground_of c.args.grounding.now in
    let e = env_of c.args.env.now in
    let old = c.args.effect.now in
    let x = c.args.staged.now in
    no-change g c.args.durative e old
    ∙ ap (with_changes g c.args.durative e old) (sym (off_stage c.args.stage.now x.stage (change_of x.change) (sym c.is_same_stage.ensures ∙ c.if-is_same_stage.false)))
