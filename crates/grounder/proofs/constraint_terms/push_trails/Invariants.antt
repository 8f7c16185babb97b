use Rattle.std.proofs.Common.{◌≡◌, ◌++◌, [], map, take}
use Rattle.grounder.specs.ShownGrounding.{ground_of}
use Rattle.grounder.specs.ShownQuantified.{envs_of}
use Rattle.grounder.specs.Task.{trail_of}
use Rattle.grounder.proofs.constraint_terms.push_trails.Given as goal

abbrev pub invariant-loop-number : goal.invariant-loop-number
invariant-loop-number l = l.out ≡ l.fn.out ++ map (trail_of (ground_of l.grounding) l.leaf.trajectory.now) (take l.number (envs_of l.quantified []))
