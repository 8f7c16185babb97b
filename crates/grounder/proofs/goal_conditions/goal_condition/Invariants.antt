use Rattle.std.proofs.Common.{◌≡◌, take}
use Rattle.std.specs.List.{flat_map}
use Rattle.ground_world.specs.Shown.{parts_of}
use Rattle.grounder.specs.ShownGrounding.{ground_of}
use Rattle.grounder.specs.Task.{literal_of, goal_forms_in}
use Rattle.grounder.proofs.goal_conditions.goal_condition.Given as goal

abbrev pub invariant-loop-part : goal.invariant-loop-part
invariant-loop-part l =
    (l.literals ≡ flat_map (literal_of (ground_of l.grounding).facts) (parts_of (take l.part-index l.parts)))
    × (l.comparisons ≡ flat_map (goal_forms_in (ground_of l.grounding)) (parts_of (take l.part-index l.parts)))
