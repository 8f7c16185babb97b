use Rattle.std.proofs.Common.{◌≡◌, take}
use Rattle.std.specs.List.{flat_map}
use Rattle.pddl_names.specs.Declarations.{with_new}
use Rattle.ground_world.specs.Leaves.{preference_name}
use Rattle.ground_world.specs.ShownLeaves.{text_of}
use Rattle.ground_world.proofs.metric_unknowns.add_constraints.Given as goal

abbrev pub invariant-loop-leaf : goal.invariant-loop-leaf
invariant-loop-leaf l = l.names ≡ with_new l.fn.names (flat_map (λ l. preference_name (text_of l.name)) (take l.leaf-index l.leaves))
