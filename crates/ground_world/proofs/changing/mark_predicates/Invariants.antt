use Rattle.std.proofs.Common.{List, take, ◌++◌}
use Rattle.std.specs.List.{flat_map}
use Rattle.pddl_names.specs.Declarations.{Text}
use Rattle.ground_world.specs.FirstState.{changed_predicate}
use Rattle.ground_world.specs.ShownChanges.{change_of}
use Rattle.ground_world.specs.Building.{Marks}
use Rattle.ground_world.proofs.changing.mark_predicates.Given as goal

abbrev pub invariant-loop-staged : goal.invariant-loop-staged
invariant-loop-staged l = (before : List Text) → Marks l.names l.fn.places before
    → Marks l.names l.places (before ++ flat_map (λ c. changed_predicate (change_of c.change)) (take l.staged-index l.changes))
