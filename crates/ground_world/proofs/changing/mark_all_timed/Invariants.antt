use Rattle.std.proofs.Common.{List, take, ◌++◌}
use Rattle.std.specs.List.{flat_map}
use Rattle.pddl_names.specs.Declarations.{Text}
use Rattle.ground_world.specs.FirstState.{timed_predicate}
use Rattle.ground_world.specs.Building.{Marks}
use Rattle.ground_world.proofs.changing.mark_all_timed.Given as goal

abbrev pub invariant-loop-entry : goal.invariant-loop-entry
invariant-loop-entry l = (before : List Text) → Marks l.names l.fn.places before
    → Marks l.names l.places (before ++ flat_map timed_predicate (take l.entry-index l.entries))
