use Rattle.std.proofs.Common.{◌≡◌, ◌++◌, map, take}
use Rattle.ground_world.specs.ShownLeaves.{costs_of}
use Rattle.grounder.specs.GoalTerms.{cost_term}
use Rattle.grounder.specs.ShownGrounding.{ground_of}
use Rattle.grounder.proofs.cost_terms.push_cost_terms.Given as goal

abbrev pub invariant-loop-leaf : goal.invariant-loop-leaf
invariant-loop-leaf l = l.out ≡ l.fn.out ++ map (cost_term (ground_of l.grounding)) (costs_of (take l.leaf-index l.leaves))
