use Rattle.std.proofs.Common.{◌≡◌, map, take, ◌+◌, ◌*◌}
use Rattle.ground_world.specs.Shown.{env_of}
use Rattle.grounder.specs.ShownGrounding.{ground_of}
use Rattle.grounder.specs.ShownQuantified.{envs_of}
use Rattle.grounder.specs.Task.{fact_number}
use Rattle.grounder.specs.Terms.{formula}
use Rattle.ground_world.proofs.Heights.{greatest}
use Rattle.grounder.proofs.TreeHeights.{form_height}
use Rattle.grounder.proofs.formulas.+formulas.Given as goal

abbrev pub invariant-formulas-loop-tree : goal.invariant-formulas-loop-tree
invariant-formulas-loop-tree l = l.out ≡ map (formula (ground_of l.grounding).world (fact_number (ground_of l.grounding)) (env_of l.env)) (take l.tree-index l.trees)

abbrev pub invariant-instances-loop-number : goal.invariant-instances-loop-number
invariant-instances-loop-number l =
    l.out ≡ map (λ e. formula (ground_of l.grounding).world (fact_number (ground_of l.grounding)) e l.body) (take l.number (envs_of l.quantified (env_of l.env)))

abbrev pub decreases-formula : goal.decreases-formula
decreases-formula l = 2 * form_height l.tree.now

abbrev pub decreases-formulas : goal.decreases-formulas
decreases-formulas l = 2 * greatest (map form_height l.trees.now) + 1

abbrev pub decreases-instances : goal.decreases-instances
decreases-instances l = 2 * form_height l.body.now + 1
