use Rattle.std.proofs.Common.{◌≤◌, sym, ap, ap₂, subst, ◌∙◌, List, [], ◌∷◌, map, take}
use Rattle.std.specs.Borrow.{Bor}
use Rattle.std.specs.List.{flat_map}
use Rattle.pddl_terms.specs.declared.trees.Group.{Group}
use Rattle.ground_world.specs.Bindings.{nested_bindings}
use Rattle.ground_world.specs.Conditions.{tests_in}
use Rattle.ground_world.specs.Counts.{around_count, soft_count, binding_limit}
use Rattle.ground_world.specs.Shown.{env_of, world_of, parts_of}
use Rattle.ground_world.specs.ShownLeaves.{lists_of}
use Rattle.ground_world.specs.World.{Env}
use Rattle.grounder.specs.Answer.{unit_of_tests}
use Rattle.grounder.specs.ShownPreferences.{compared_parts, preferences_of}
use Rattle.grounder.specs.ShownQuantified.{envs_of}
use Rattle.grounder.specs.ShownUnits.{AreLeast}
use Rattle.grounder.specs.Terms.{PreferencePart, preference_parts}
use Rattle.grounder.proofs.OneByOne.{envs-all}
use Rattle.grounder.proofs.Reaching.{outer_few}
use Rattle.grounder.proofs.TermSteps.{few_parts}
use Rattle.grounder.proofs.UnitSteps.{instance_unit, compared-unit, instance-more}
use Rattle.grounder.proofs.units.instance_faults.Goals as goal

pub nested-requires : goal.nested-requires
nested-requires c =
    let w = world_of c.args.tables.now in
    subst (λ (l : List (Bor (List Group))). around_count w (lists_of l) ≤ binding_limit) (sym c.as_slice.ensures)
    (outer_few (around_count w (lists_of c.args.leaf.now.around)) (soft_count w c.args.leaf.now.body.now) c.requires)

pub compared_parts-requires : goal.compared_parts-requires
compared_parts-requires c =
    let w = world_of c.args.tables.now in
    few_parts w (lists_of c.args.leaf.now.around) c.args.leaf.now.body.now c.requires c.in_ok-quantified.quantified
    (c.in_ok-quantified.ensures [] ∙ ap (λ (l : List (Bor (List Group))). nested_bindings w [] (lists_of l)) c.as_slice.ensures) c.loop-number.number c.loop-number-test.true
    c.as_slice-in-loop-number-2.result.now (ap preferences_of c.as_slice-in-loop-number-2.ensures ∙ c.in_ok-parts.ensures)

pub loop-number-init : goal.loop-number-init
loop-number-init c = c.no_faults-found.ensures (world_of c.args.tables.now)

pub loop-number-preserved : goal.loop-number-preserved
loop-number-preserved c =
    let w = world_of c.args.tables.now in
    let xs = preference_parts w c.args.leaf.now.body.now in
    let q = c.in_ok-quantified.quantified in
    let e = env_of c.in_ok-env.env in
    let before = map (instance_unit w xs) (take c.loop-number.number (envs_of q [])) in
    let u = unit_of_tests w (flat_map tests_in (parts_of c.as_slice-in-loop-number-3.result.now)) in
    instance-more w q e c.loop-number.number c.loop-number-test.true c.in_ok-env.ensures xs u c.both-found.result
    (compared-unit w e xs (parts_of c.as_slice-in-loop-number-3.result.now)
    (ap parts_of c.as_slice-in-loop-number-3.ensures ∙ c.in_ok-compared.ensures
    ∙ ap₂ (λ (v : Env) (l : List PreferencePart). flat_map (compared_parts w v) l) (ap env_of c.as_slice-in-loop-number.ensures) (ap preferences_of c.as_slice-in-loop-number-2.ensures ∙ c.in_ok-parts.ensures)))
    (c.both-found.ensures w before (u ∷ []) c.loop-number.invariant c.in_ok-test_faults.ensures)

pub returns : goal.returns
returns c =
    let w = world_of c.args.tables.now in
    subst (λ (es : List Env). AreLeast w (map (instance_unit w (preference_parts w c.args.leaf.now.body.now)) es) c.loop-number.found)
    (envs-all c.in_ok-quantified.quantified [] (nested_bindings w [] (lists_of c.args.leaf.now.around))
    (c.in_ok-quantified.ensures [] ∙ ap (λ (l : List (Bor (List Group))). nested_bindings w [] (lists_of l)) c.as_slice.ensures) c.loop-number.number c.loop-number-test.false)
    c.loop-number.invariant
