use Rattle.std.proofs.Common.{◌≡◌, ◌≤◌, ◌<◌, sym, ap, ap₂, subst, ◌∙◌, List, [], ◌∷◌, ◌++◌, map, arith}
use Rattle.std.specs.Borrow.{Bor}
use Rattle.pddl_terms.specs.declared.trees.Group.{Group}
use Rattle.ground_world.specs.Counts.{around_count, soft_count, trajectory_count, binding_limit, part_limit}
use Rattle.ground_world.specs.Leaves.{leaf_envs}
use Rattle.ground_world.specs.ShownLeaves.{lists_of}
use Rattle.ground_world.specs.Bindings.{nested_bindings}
use Rattle.ground_world.specs.World.{Env}
use Rattle.ground_world.specs.Shown.{env_of}
use Rattle.ground_world.specs.declared.binding.Bound.{Bound}
use Rattle.grounder.specs.ShownGrounding.{ground_of}
use Rattle.grounder.specs.ShownQuantified.{envs_of}
use Rattle.grounder.proofs.Reaching.{outer_few, parts_few}
use Rattle.grounder.proofs.LeafSteps.{some_instance}
use Rattle.grounder.proofs.OneByOne.{put_env, envs-all}
use Rattle.task_types.specs.declared.constraints.Trail.{Trail}
use Rattle.task_types.specs.declared.costs.Soft.TheVariants as soft
use Rattle.grounder.specs.Task.{trail_of}
use Rattle.grounder.proofs.constraint_terms.push_preferences.Goals as goal

pub nested-requires : goal.nested-requires
nested-requires c =
    subst (λ (l : List (Bor (List Group))). around_count (ground_of c.args.grounding.now).world (lists_of l) ≤ binding_limit) (sym c.as_slice.ensures)
    (outer_few (around_count (ground_of c.args.grounding.now).world (lists_of c.args.leaf.now.around)) (trajectory_count (ground_of c.args.grounding.now).world c.args.leaf.now.trajectory.now) c.requires)

pub trail-requires : goal.trail-requires
trail-requires c =
    let p = some_instance (ground_of c.args.grounding.now).world (lists_of c.as_slice.result.now) c.in_ok-quantified.quantified [] (c.in_ok-quantified.ensures []) c.loop-number.number c.loop-number-test.true in
    parts_few (around_count (ground_of c.args.grounding.now).world (lists_of c.args.leaf.now.around)) (trajectory_count (ground_of c.args.grounding.now).world c.args.leaf.now.trajectory.now)
    (subst (λ (l : List (Bor (List Group))). 0 < around_count (ground_of c.args.grounding.now).world (lists_of l)) c.as_slice.ensures p) c.requires

pub loop-number-preserved : goal.loop-number-preserved
loop-number-preserved c =
    put_env c.in_ok-quantified.quantified [] (env_of c.in_ok-env.env) c.loop-number.number c.loop-number-test.true c.in_ok-env.ensures
    (λ (e : Env). soft.Trail (trail_of (ground_of c.args.grounding.now) c.args.leaf.now.trajectory.now e) c.args.weight) _ c.args.out.now c.loop-number.out _ c.loop-number.invariant
    (ap (λ (t : Trail). soft.Trail t c.args.weight) (c.in_ok-trail.ensures ∙ ap (λ (l : List Bound). (trail_of (ground_of c.args.grounding.now) c.args.leaf.now.trajectory.now) (env_of l)) c.as_slice-in-loop-number.ensures)) c.in_ok-push.ensures.ok

pub returns : goal.returns
returns c =
    c.loop-number.invariant
    ∙ ap (λ (es : List Env). c.args.out.now ++ map (λ (e : Env). soft.Trail (trail_of (ground_of c.args.grounding.now) c.args.leaf.now.trajectory.now e) c.args.weight) es)
    (envs-all c.in_ok-quantified.quantified [] (nested_bindings (ground_of c.args.grounding.now).world [] (lists_of c.args.leaf.now.around))
    (c.in_ok-quantified.ensures [] ∙ ap (λ (l : List (Bor (List Group))). nested_bindings (ground_of c.args.grounding.now).world [] (lists_of l)) c.as_slice.ensures) c.loop-number.number c.loop-number-test.false)
