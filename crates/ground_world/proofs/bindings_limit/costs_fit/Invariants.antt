use Rattle.std.proofs.Common.{◌≡◌, true, take}
use Rattle.std.specs.List.{list_all}
use Rattle.ground_world.specs.Counting.{cost_fits}
use Rattle.ground_world.specs.Leaves.{cost_of}
use Rattle.ground_world.specs.Shown.{world_of}
use Rattle.ground_world.proofs.bindings_limit.costs_fit.Given as goal

abbrev pub invariant-loop-cost : goal.invariant-loop-cost
invariant-loop-cost l = list_all (λ c. list_all (cost_fits (world_of l.tables)) (cost_of c)) (take l.cost-index l.costs) ≡ true
