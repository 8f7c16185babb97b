use Rattle.std.proofs.Common.{◌≡◌, ◌++◌, take}
use Rattle.std.specs.List.{flat_map}
use Rattle.ground_world.specs.Conditions.{tests_in}
use Rattle.ground_world.specs.FirstState.{unvalued_places}
use Rattle.ground_world.specs.Shown.{world_of, parts_of}
use Rattle.grounder.specs.Instances.{test_mentions}
use Rattle.grounder.proofs.mentions.push_in_parts.Given as goal

abbrev pub invariant-loop-part : goal.invariant-loop-part
invariant-loop-part l = l.out ≡ l.fn.out ++ unvalued_places (world_of l.tables) (flat_map (test_mentions (world_of l.tables)) (flat_map tests_in (parts_of (take l.part-index l.parts))))
