use Rattle.std.proofs.Common.{◌≡◌, map, take}
use Rattle.ground_world.specs.Shown.{world_of}
use Rattle.grounder.specs.PlainParts.{fact_of}
use Rattle.grounder.proofs.plain_parts.task_facts.Given as goal

abbrev pub invariant-loop-atom : goal.invariant-loop-atom
invariant-loop-atom l = l.out ≡ map (fact_of (world_of l.grounding.tables)) (map (λ k. k.items) (take l.atom-index l.atom-items))
