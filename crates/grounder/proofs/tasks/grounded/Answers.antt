use Rattle.std.proofs.Common.{◌≡◌, ◌≤◌, sym, ap, ap₂, subst, ◌∙◌, true, List}
use Rattle.std.specs.List.{list_all}
use Rattle.pddl_terms.specs.declared.files.ActionDef.{ActionDef}
use Rattle.ground_world.specs.World.{World, columns}
use Rattle.ground_world.specs.Bindings.{choice_count}
use Rattle.ground_world.specs.Counts.{body_count, fit_limits, goal_count, part_limit}
use Rattle.ground_world.specs.FirstState.{world}
use Rattle.ground_world.specs.Leaves.{goal_preferences}
use Rattle.ground_world.specs.Readings.{unknowns_of}
use Rattle.ground_world.specs.Shown.{world_of}
use Rattle.grounder.specs.Instances.{kept}
use Rattle.grounder.specs.ShownInstances.{all_of}
use Rattle.grounder.specs.Reach.{preference_fits}
use Rattle.grounder.proofs.BindingLimits.{actions-within, goal-within, preferences-within}
use Rattle.grounder.proofs.FaultOrder.{value-answer}
use Rattle.grounder.proofs.GroundingParts.{value_fault-is}
use Rattle.grounder.proofs.tasks.grounded.Goals as goal

pub kept_instances-requires : goal.kept_instances-requires
kept_instances-requires c =
    let own = c.as_slice.ensures in
    let d = c.args.domain.now in
    let p = c.args.problem.now in
    subst (λ (w : World). list_all (λ a. fit_limits (choice_count (columns w a.parameters)) (body_count w a.body)) c.as_slice.result.now ≡ true) (sym (ap (λ g. g.world) c.requires.ground))
    (subst (λ (xs : List ActionDef). list_all (λ a. fit_limits (choice_count (columns (world d p) a.parameters)) (body_count (world d p) a.body)) xs ≡ true) (sym own)
    (actions-within (world d p) d p c.requires.fit))

pub unit_fault-requires-clause-goal : goal.unit_fault-requires-clause-goal
unit_fault-requires-clause-goal c =
    subst (λ (w : World). goal_count w c.args.problem.now.goal ≤ part_limit) (sym (ap (λ g. g.world) c.requires.ground))
    (goal-within (world c.args.domain.now c.args.problem.now) c.args.domain.now c.args.problem.now c.requires.fit)

pub unit_fault-requires-clause-preferences : goal.unit_fault-requires-clause-preferences
unit_fault-requires-clause-preferences c =
    subst (λ (w : World). list_all (preference_fits w) (goal_preferences c.args.problem.now.goal) ≡ true) (sym (ap (λ g. g.world) c.requires.ground))
    (preferences-within (world c.args.domain.now c.args.problem.now) c.args.domain.now c.args.problem.now c.requires.fit)

pub returns-in-Some : goal.returns-in-Some
returns-in-Some c =
    let d = c.args.domain.now in
    let p = c.args.problem.now in
    sym (value-answer d p c.requires.fit c.in-Some.fault
    (sym (value_fault-is d p (world_of c.args.grounding.now.tables) (unknowns_of c.args.grounding.now.names) c.as_slice.result.now c.in_ok-found.found.wide
    (ap (λ g. g.world) c.requires.ground) (ap (λ g. g.unknowns) c.requires.ground) c.as_slice.ensures c.in_ok-found.ensures.wide)
    ∙ sym c.in_ok-fault.ensures ∙ c.in-Some.is))

pub limited-requires-clause-instances : goal.limited-requires-clause-instances
limited-requires-clause-instances c = ap all_of c.as_slice-2.ensures ∙ c.in_ok-found.ensures.instances
    ∙ ap₂ (λ (w : World) (xs : List ActionDef). kept w xs) (ap (λ g. g.world) c.requires.ground) c.as_slice.ensures

pub limited-requires-clause-values : goal.limited-requires-clause-values
limited-requires-clause-values c =
    let d = c.args.domain.now in
    let p = c.args.problem.now in
    sym (value_fault-is d p (world_of c.args.grounding.now.tables) (unknowns_of c.args.grounding.now.names) c.as_slice.result.now c.in_ok-found.found.wide
    (ap (λ g. g.world) c.requires.ground) (ap (λ g. g.unknowns) c.requires.ground) c.as_slice.ensures c.in_ok-found.ensures.wide)
    ∙ sym c.in_ok-fault.ensures ∙ c.in-None.is
