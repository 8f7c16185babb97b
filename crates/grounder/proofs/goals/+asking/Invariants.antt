use Rattle.std.proofs.Common.{◌≡◌, false, take}
use Rattle.std.specs.List.{list_any}
use Rattle.ground_world.specs.World.{World}
use Rattle.grounder.proofs.Asking.{asks}
use Rattle.grounder.proofs.goals.+asking.Given as goal

abbrev pub invariant-are_asking-loop-tree : goal.invariant-are_asking-loop-tree
invariant-are_asking-loop-tree l = (w : World) → list_any (asks w) (take l.tree-index l.trees) ≡ false
