use Rattle.std.proofs.Common.{map}
use Rattle.ground_world.specs.Leaves.{leaf_envs}
use Rattle.grounder.specs.Reach.{preference_fits}
use Rattle.grounder.specs.ShownGrounding.{ground_of}
use Rattle.grounder.specs.ShownTerms.{preference_leaf}
use Rattle.grounder.specs.Task.{goal_soft}
use Rattle.grounder.proofs.LeafSteps.{each_fits}
use Rattle.grounder.proofs.OneByOne.{joined_of_more}
use Rattle.grounder.proofs.terms.push_all_goal_terms.Goals as goal

pub push_goal_terms-requires : goal.push_goal_terms-requires
push_goal_terms-requires c =
    each_fits (preference_fits (ground_of c.args.grounding.now).world) preference_leaf c.args.leaves.now c.loop-leaf.leaf-index c.leaf-item.result c.loop-leaf-test.true c.leaf-item.is c.requires

pub loop-leaf-preserved : goal.loop-leaf-preserved
loop-leaf-preserved c =
    let g = ground_of c.args.grounding.now in
    joined_of_more c.args.leaves.now c.loop-leaf.leaf-index c.leaf-item.result c.loop-leaf-test.true c.leaf-item.is
    preference_leaf (λ l. map (goal_soft g l) (leaf_envs g.world l)) c.args.out.now c.loop-leaf.out c.push_goal_terms.new.out c.loop-leaf.invariant c.in_ok-push_goal_terms.ensures
