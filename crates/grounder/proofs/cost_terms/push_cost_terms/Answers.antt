use Rattle.std.proofs.Common.{◌≡◌, ap, ◌∙◌, ◌++◌, ◌∷◌, List, [], true}
use Rattle.task_types.specs.declared.costs.Soft.{Soft}
use Rattle.grounder.specs.GoalTerms.{cost_term}
use Rattle.grounder.specs.Reach.{cost_fits}
use Rattle.grounder.specs.ShownGrounding.{ground_of}
use Rattle.grounder.specs.ShownTerms.{cost_leaf}
use Rattle.grounder.proofs.LeafSteps.{each_fits}
use Rattle.grounder.proofs.OneByOne.{put_of_more}
use Rattle.grounder.proofs.cost_terms.push_cost_terms.Goals as goal

pub cost_term-requires : goal.cost_term-requires
cost_term-requires c = each_fits (cost_fits (ground_of c.args.grounding.now).world) cost_leaf c.args.leaves.now c.loop-leaf.leaf-index c.leaf-item.result c.loop-leaf-test.true c.leaf-item.is c.requires

pub loop-leaf-preserved : goal.loop-leaf-preserved
loop-leaf-preserved c =
    put_of_more c.args.leaves.now c.loop-leaf.leaf-index c.leaf-item.result c.loop-leaf-test.true c.leaf-item.is
    cost_leaf (cost_term (ground_of c.args.grounding.now)) c.args.out.now c.loop-leaf.out _ c.loop-leaf.invariant
    (c.in_ok-push.ensures.ok ∙ ap (λ (x : Soft). c.loop-leaf.out ++ (x ∷ [])) c.in_ok-cost_term.ensures)
