use Rattle.std.proofs.Common.{◌≡◌, take}
use Rattle.std.specs.List.{flat_map}
use Rattle.pddl_names.specs.Declarations.{with_new}
use Rattle.ground_world.specs.Leaves.{cost_of}
use Rattle.ground_world.specs.Shown.{world_of}
use Rattle.grounder.proofs.FactSteps.{cost_atoms}
use Rattle.grounder.proofs.facts.add_all_cost_atoms.Given as goal

abbrev pub invariant-loop-cost : goal.invariant-loop-cost
invariant-loop-cost l = l.atoms ≡ with_new l.fn.atoms (cost_atoms (world_of l.tables) (flat_map cost_of (take l.cost-index l.costs)))
