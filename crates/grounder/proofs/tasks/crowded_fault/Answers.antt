use Rattle.std.proofs.Common.{◌≡◌, ◌<◌, sym, subst, ◌∙◌, true, length, List}
use Rattle.std.specs.List.{list_all}
use Rattle.pddl_terms.specs.declared.files.ActionDef.{ActionDef}
use Rattle.ground_world.specs.World.{World, columns}
use Rattle.ground_world.specs.Bindings.{choice_count}
use Rattle.ground_world.specs.Counts.{bindings_fit, body_count, fit_limits}
use Rattle.ground_world.specs.Readings.{unknowns_of}
use Rattle.ground_world.specs.Shown.{world_of}
use Rattle.grounder.specs.Task.{fact_atoms}
use Rattle.grounder.proofs.BindingLimits.{actions-within, goal-within, preferences-within}
use Rattle.grounder.proofs.FaultOrder.{crowded-answer, value-answer}
use Rattle.grounder.proofs.GroundingParts.{value_fault-is}
use Rattle.grounder.proofs.tasks.crowded_fault.Goals as goal

pub kept_instances-requires : goal.kept_instances-requires
kept_instances-requires c =
    let w = world_of c.args.tables.now in
    subst (λ (xs : List ActionDef). list_all (λ a. fit_limits (choice_count (columns w a.parameters)) (body_count w a.body)) xs ≡ true) (sym c.as_slice.ensures)
    (actions-within w c.args.domain.now c.args.problem.now c.requires.fit)

pub unit_fault-requires-clause-goal : goal.unit_fault-requires-clause-goal
unit_fault-requires-clause-goal c = goal-within (world_of c.args.tables.now) c.args.domain.now c.args.problem.now c.requires.fit

pub unit_fault-requires-clause-preferences : goal.unit_fault-requires-clause-preferences
unit_fault-requires-clause-preferences c = preferences-within (world_of c.args.tables.now) c.args.domain.now c.args.problem.now c.requires.fit

pub returns-in-Some : goal.returns-in-Some
returns-in-Some c =
    let d = c.args.domain.now in
    let p = c.args.problem.now in
    value-answer d p (subst (λ (w : World). bindings_fit w d p ≡ true) c.requires.world c.requires.fit) c.in-Some.fault
    (sym (value_fault-is d p (world_of c.args.tables.now) (unknowns_of c.args.names.now) c.as_slice.result.now c.in_ok-found.found.wide
    c.requires.world c.requires.names c.as_slice.ensures c.in_ok-found.ensures.wide)
    ∙ sym c.in_ok-fault.ensures ∙ c.in-Some.is)

pub returns : goal.returns
returns c =
    let d = c.args.domain.now in
    let p = c.args.problem.now in
    crowded-answer d p (subst (λ (w : World). bindings_fit w d p ≡ true) c.requires.world c.requires.fit)
    (sym (value_fault-is d p (world_of c.args.tables.now) (unknowns_of c.args.names.now) c.as_slice.result.now c.in_ok-found.found.wide
    c.requires.world c.requires.names c.as_slice.ensures c.in_ok-found.ensures.wide)
    ∙ sym c.in_ok-fault.ensures ∙ c.in-None.is)
    (subst (λ (w : World). 16384 < length (fact_atoms w d p)) c.requires.world c.requires.many)
