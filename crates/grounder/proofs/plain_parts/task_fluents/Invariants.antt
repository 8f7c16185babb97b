use Rattle.std.proofs.Common.{◌≡◌, map, take}
use Rattle.ground_world.specs.Shown.{world_of}
use Rattle.grounder.specs.PlainParts.{fluent_of}
use Rattle.grounder.proofs.plain_parts.task_fluents.Given as goal

abbrev pub invariant-loop-key : goal.invariant-loop-key
invariant-loop-key l = l.out ≡ map (fluent_of (world_of l.grounding.tables)) (map (λ k. k.items) (take l.key-index l.key-items))
