use Rattle.std.proofs.Common.{◌≡◌, sym, ap, subst, true, List, [], OnOk}
use Rattle.std.specs.List.{flat_map, list_all}
use Rattle.pddl_terms.specs.declared.files.TimeCost.{TimeCost}
use Rattle.pddl_names.specs.Declarations.{with_new}
use Rattle.ground_world.specs.World.{GroundAtom, either}
use Rattle.ground_world.specs.Leaves.{cost_of}
use Rattle.ground_world.specs.Shown.{world_of}
use Rattle.grounder.specs.Reach.{cost_fits}
use Rattle.grounder.specs.Terms.{goal_atoms, constraint_atoms}
use Rattle.grounder.proofs.FactSteps.{goal-fits, domain-fits, problem-fits, costs-fit, cost_atoms, four-added}
use Rattle.grounder.proofs.facts.add_mentioned.Goals as goal

pub add_goal_atoms-requires : goal.add_goal_atoms-requires
add_goal_atoms-requires c = goal-fits (world_of c.args.tables.now) c.args.domain.now c.args.problem.now c.requires

pub add_optional-requires : goal.add_optional-requires
add_optional-requires c = domain-fits (world_of c.args.tables.now) c.args.domain.now c.args.problem.now c.requires

pub add_optional-requires-2 : goal.add_optional-requires-2
add_optional-requires-2 c = problem-fits (world_of c.args.tables.now) c.args.domain.now c.args.problem.now c.requires

pub add_all_cost_atoms-requires : goal.add_all_cost_atoms-requires
add_all_cost_atoms-requires c =
    subst (λ (l : List TimeCost). list_all (cost_fits (world_of c.args.tables.now)) (flat_map cost_of l) ≡ true) (sym c.as_slice.ensures) (costs-fit (world_of c.args.tables.now) c.args.domain.now c.args.problem.now c.requires)

pub returns : goal.returns
returns c =
    let some = either [] (constraint_atoms (world_of c.args.tables.now) []) in
    let costs = cost_atoms (world_of c.args.tables.now) (flat_map cost_of c.args.problem.now.time_costs) in
    subst (λ (l : List GroundAtom). OnOk c.add_all_cost_atoms.result (c.add_all_cost_atoms.new.atoms ≡ l))
    (four-added c.args.atoms.now (goal_atoms (world_of c.args.tables.now) [] c.args.problem.now.goal) (some c.args.domain.now.constraints) (some c.args.problem.now.constraints) costs
    c.add_goal_atoms.new.atoms c.add_optional.new.atoms c.add_optional-2.new.atoms _
    c.in_ok-add_goal_atoms.ensures c.in_ok-add_optional.ensures c.in_ok-add_optional-2.ensures
    (ap (λ (l : List TimeCost). with_new c.add_optional-2.new.atoms (cost_atoms (world_of c.args.tables.now) (flat_map cost_of l))) c.as_slice.ensures))
    c.add_all_cost_atoms.ensures
