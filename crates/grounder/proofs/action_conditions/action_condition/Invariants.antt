use Rattle.std.proofs.Common.{◌≡◌, take}
use Rattle.ground_world.specs.Changes.{parts_at}
use Rattle.ground_world.specs.ShownParts.{with_stages}
use Rattle.grounder.specs.ShownGrounding.{ground_of}
use Rattle.grounder.specs.Task.{action_condition}
use Rattle.grounder.proofs.action_conditions.action_condition.Given as goal

abbrev pub invariant-loop-at : goal.invariant-loop-at
invariant-loop-at l = l.condition ≡ action_condition (ground_of l.grounding) (parts_at l.stage (take l.at (with_stages l.parts l.stages)))
