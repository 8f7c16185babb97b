use Rattle.std.proofs.Common.{◌≡◌, ◌+◌, ◌<◌, drop}
use Rattle.std.specs.List.{sum_by}
use Rattle.cert_core.specs.Trees.{leaf_count}
use Rattle.cert_core.proofs.tree.+count.Given as goal

abbrev pub invariant-leaves_of_all-loop-tree : goal.invariant-leaves_of_all-loop-tree
invariant-leaves_of_all-loop-tree g l = l.total < 4294967296 × l.total + sum_by leaf_count (drop l.tree-index l.trees) ≡ sum_by leaf_count l.trees
