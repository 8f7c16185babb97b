use Rattle.std.proofs.Common.{◌≡◌, ◌++◌, take}
use Rattle.std.specs.List.{flat_map}
use Rattle.ground_world.specs.Conditions.{tests_in}
use Rattle.ground_world.specs.Shown.{world_of, parts_of}
use Rattle.grounder.specs.Bindings.{test_flaws}
use Rattle.grounder.proofs.binding_flaws.push_of_parts.Given as goal

abbrev pub invariant-loop-part : goal.invariant-loop-part
invariant-loop-part l = l.flaws ≡ l.fn.flaws ++ test_flaws (world_of l.tables) (flat_map tests_in (parts_of (take l.part-index l.parts)))
