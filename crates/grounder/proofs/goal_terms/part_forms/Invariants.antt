use Rattle.std.proofs.Common.{◌≡◌, take}
use Rattle.std.specs.List.{flat_map}
use Rattle.ground_world.specs.Conditions.{tests_in}
use Rattle.ground_world.specs.Shown.{parts_of}
use Rattle.grounder.specs.ShownGrounding.{ground_of}
use Rattle.grounder.specs.Task.{compared}
use Rattle.grounder.proofs.goal_terms.part_forms.Given as goal

abbrev pub invariant-loop-part : goal.invariant-loop-part
invariant-loop-part l = l.out ≡ flat_map (compared (ground_of l.grounding)) (flat_map tests_in (parts_of (take l.part-index l.parts)))
