use Rattle.std.proofs.Common.{◌≡◌, map, take}
use Rattle.ground_world.specs.Shown.{world_of}
use Rattle.grounder.specs.PlainParts.{schema_of}
use Rattle.grounder.proofs.plain_parts.schemas.Given as goal

abbrev pub invariant-loop-action : goal.invariant-loop-action
invariant-loop-action l = l.out ≡ map (schema_of (world_of l.tables)) (take l.action-index l.actions)
