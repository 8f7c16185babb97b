use Rattle.std.proofs.Common.{◌≡◌, sym, subst, ◌∙◌, nat_le, true, List}
use Rattle.std.specs.List.{list_all}
use Rattle.ground_world.specs.Counts.{body_count, part_limit}
use Rattle.ground_world.specs.FirstState.{world}
use Rattle.grounder.specs.Instances.{Instance, kept}
use Rattle.grounder.specs.ShownGrounding.{ground_of}
use Rattle.grounder.specs.ShownInstances.{all_of}
use Rattle.grounder.specs.Task.{Ground}
use Rattle.grounder.proofs.TaskFields.{conditions-within, made-actions, made-snaps, made-timed}
use Rattle.grounder.proofs.task_parts.task_parts.Goals as goal

pub numbered_steps-requires-clause-fit : goal.numbered_steps-requires-clause-fit
numbered_steps-requires-clause-fit c =
    subst (λ (is : List Instance). list_all (λ i. nat_le (body_count (ground_of c.args.grounding.now).world i.action.body) part_limit) is ≡ true) (sym c.requires.instances)
    (subst (λ (g : Ground). list_all (λ i. nat_le (body_count g.world i.action.body) part_limit) (kept (world c.args.domain.now c.args.problem.now) c.args.domain.now.actions) ≡ true) (sym c.requires.ground)
    (conditions-within c.args.domain.now c.args.problem.now c.requires.accepted c.requires.fit))

pub with_steps-requires-clause-actions : goal.with_steps-requires-clause-actions
with_steps-requires-clause-actions c = c.in_ok-steps.ensures.actions
    ∙ made-actions c.args.domain.now c.args.problem.now (ground_of c.args.grounding.now) c.requires.ground (all_of c.args.instances.now) c.requires.instances

pub with_steps-requires-clause-snaps : goal.with_steps-requires-clause-snaps
with_steps-requires-clause-snaps c = c.in_ok-steps.ensures.snaps
    ∙ made-snaps c.args.domain.now c.args.problem.now (ground_of c.args.grounding.now) c.requires.ground (all_of c.args.instances.now) c.requires.instances
    c.as_slice.result.now c.as_slice.ensures

pub with_steps-requires-clause-timed : goal.with_steps-requires-clause-timed
with_steps-requires-clause-timed c = c.in_ok-steps.ensures.timed
    ∙ made-timed c.args.domain.now c.args.problem.now (ground_of c.args.grounding.now) c.requires.ground (all_of c.args.instances.now) c.requires.instances
    c.as_slice.result.now c.as_slice.ensures
