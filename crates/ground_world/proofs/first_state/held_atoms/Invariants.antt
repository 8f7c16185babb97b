use Rattle.std.proofs.Common.{◌≡◌, take, []}
use Rattle.std.specs.List.{flat_map}
use Rattle.pddl_names.specs.Declarations.{with_new}
use Rattle.ground_world.specs.FirstState.{held_atom}
use Rattle.ground_world.specs.Shown.{world_of}
use Rattle.ground_world.proofs.first_state.held_atoms.Given as goal

abbrev pub invariant-loop-entry : goal.invariant-loop-entry
invariant-loop-entry l = l.held ≡ with_new [] (flat_map (held_atom (world_of l.tables)) (take l.entry-index l.entries))
