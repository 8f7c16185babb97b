use Rattle.std.proofs.Common.{List, take, ◌++◌}
use Rattle.std.specs.List.{flat_map}
use Rattle.pddl_names.specs.Declarations.{Text}
use Rattle.ground_world.specs.Changes.{changes}
use Rattle.ground_world.specs.FirstState.{changed_function}
use Rattle.ground_world.specs.Building.{Marks}
use Rattle.ground_world.proofs.changing.mark_changed_functions.Given as goal

abbrev pub invariant-loop-action : goal.invariant-loop-action
invariant-loop-action l = (before : List Text) → Marks l.names l.fn.places before
    → Marks l.names l.places (before ++ flat_map (λ a. flat_map (λ c. changed_function c.part) (changes a)) (take l.action-index l.actions))
