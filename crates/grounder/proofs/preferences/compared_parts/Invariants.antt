use Rattle.std.proofs.Common.{◌≡◌, take}
use Rattle.std.specs.List.{flat_map}
use Rattle.ground_world.specs.Shown.{env_of, world_of, parts_of}
use Rattle.grounder.specs.ShownPreferences.{preferences_of, compared_parts}
use Rattle.grounder.proofs.preferences.compared_parts.Given as goal

abbrev pub invariant-loop-part : goal.invariant-loop-part
invariant-loop-part l = parts_of l.out ≡ flat_map (compared_parts (world_of l.tables) (env_of l.env)) (preferences_of (take l.part-index l.parts))
