use Rattle.std.proofs.Common.{◌≡◌, ap, ◌∙◌, List, [], true}
use Rattle.grounder.specs.ShownGrounding.{ground_of}
use Rattle.grounder.specs.ShownTerms.{constraint_leaf}
use Rattle.grounder.specs.Reach.{leaf_fits}
use Rattle.grounder.specs.Task.{soft_of}
use Rattle.grounder.proofs.LeafSteps.{each_fits}
use Rattle.grounder.proofs.OneByOne.{joined_of_more}
use Rattle.grounder.proofs.constraint_terms.push_all_soft.Goals as goal

pub push_soft-requires : goal.push_soft-requires
push_soft-requires c = each_fits (leaf_fits (ground_of c.args.grounding.now).world) constraint_leaf c.args.leaves.now c.loop-leaf.leaf-index c.leaf-item.result c.loop-leaf-test.true c.leaf-item.is c.requires

pub loop-leaf-preserved : goal.loop-leaf-preserved
loop-leaf-preserved c =
    joined_of_more c.args.leaves.now c.loop-leaf.leaf-index c.leaf-item.result c.loop-leaf-test.true c.leaf-item.is
    constraint_leaf (soft_of (ground_of c.args.grounding.now)) c.args.out.now c.loop-leaf.out c.push_soft.new.out c.loop-leaf.invariant c.in_ok-push_soft.ensures
