use Rattle.std.proofs.Common.{sym, ap, subst, ◌∙◌, ◌≤◌}
use Rattle.ground_world.specs.Counts.{goal_count, part_limit}
use Rattle.ground_world.specs.FirstState.{world}
use Rattle.grounder.specs.ShownGrounding.{ground_of}
use Rattle.grounder.specs.Task.{ground_task}
use Rattle.grounder.proofs.BindingLimits.{goal-within}
use Rattle.grounder.proofs.TaskFields.{made-goal, made-hard, made-metric, made-soft, same_task}
use Rattle.grounder.proofs.task_parts.with_steps.Goals as goal

pub goal-requires : goal.goal-requires
goal-requires c = subst (λ w. goal_count w c.args.problem.now.goal ≤ part_limit) (sym (ap (λ g. g.world) c.requires.ground))
    (goal-within (world c.args.domain.now c.args.problem.now) c.args.domain.now c.args.problem.now c.requires.fit)

pub returns : goal.returns
returns c = same_task _ (ground_task c.args.domain.now c.args.problem.now)
    c.in_ok-plain.ensures.objects c.in_ok-plain.ensures.schemas c.in_ok-plain.ensures.facts c.in_ok-plain.ensures.fluents
    c.requires.actions c.requires.snaps c.requires.timed
    (c.in_ok-goal.ensures ∙ made-goal c.args.domain.now c.args.problem.now (ground_of c.args.grounding.now) c.requires.ground)
    (c.in_ok-terms.ensures.hard ∙ made-hard c.args.domain.now c.args.problem.now (ground_of c.args.grounding.now) c.requires.ground)
    (c.in_ok-terms.ensures.soft ∙ made-soft c.args.domain.now c.args.problem.now (ground_of c.args.grounding.now) c.requires.ground)
    (c.in_ok-metric.ensures ∙ made-metric c.args.domain.now c.args.problem.now (ground_of c.args.grounding.now) c.requires.ground)
