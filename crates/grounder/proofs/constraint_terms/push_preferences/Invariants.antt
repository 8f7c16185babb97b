use Rattle.std.proofs.Common.{◌≡◌, ◌++◌, [], map, take}
use Rattle.task_types.specs.declared.costs.Soft.TheVariants as soft
use Rattle.grounder.specs.ShownGrounding.{ground_of}
use Rattle.grounder.specs.ShownQuantified.{envs_of}
use Rattle.grounder.specs.Task.{trail_of}
use Rattle.grounder.proofs.constraint_terms.push_preferences.Given as goal

abbrev pub invariant-loop-number : goal.invariant-loop-number
invariant-loop-number l =
    l.out ≡ l.fn.out ++ map (λ env. soft.Trail (trail_of (ground_of l.grounding) l.leaf.trajectory.now env) l.weight) (take l.number (envs_of l.quantified []))
