use Rattle.std.proofs.Common.{◌≡◌, ◌++◌, [], map, take}
use Rattle.grounder.specs.ShownGrounding.{ground_of}
use Rattle.grounder.specs.ShownQuantified.{envs_of}
use Rattle.grounder.specs.ShownTerms.{preference_leaf}
use Rattle.grounder.specs.Task.{goal_soft}
use Rattle.grounder.proofs.terms.push_goal_terms.Given as goal

abbrev pub invariant-loop-number : goal.invariant-loop-number
invariant-loop-number l = l.out ≡ l.fn.out ++ map (goal_soft (ground_of l.grounding) (preference_leaf l.leaf)) (take l.number (envs_of l.quantified []))
