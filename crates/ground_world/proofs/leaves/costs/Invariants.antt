use Rattle.std.proofs.Common.{◌≡◌, take}
use Rattle.std.specs.List.{flat_map}
use Rattle.ground_world.specs.Leaves.{cost_of}
use Rattle.ground_world.specs.ShownLeaves.{costs_of}
use Rattle.ground_world.proofs.leaves.costs.Given as goal

abbrev pub invariant-loop-cost : goal.invariant-loop-cost
invariant-loop-cost l = costs_of l.out ≡ flat_map cost_of (take l.cost-index l.cost-items)
