use Rattle.std.proofs.Common.{◌≡◌, ap, ◌∙◌, List, [], true}
use Rattle.std.specs.List.{flat_map}
use Rattle.std.proofs.lemmas.List.{take_all}
use Rattle.ground_world.specs.declared.leaves.ConstraintLeaf.{ConstraintLeaf}
use Rattle.ground_world.specs.ShownLeaves.{constraints_of}
use Rattle.grounder.specs.ShownGrounding.{ground_of}
use Rattle.grounder.specs.ShownTerms.{constraint_leaf}
use Rattle.grounder.specs.Reach.{leaf_fits}
use Rattle.grounder.specs.Task.{hard_of, hard_terms}
use Rattle.grounder.proofs.LeafSteps.{each_fits}
use Rattle.grounder.proofs.OneByOne.{joined_of_more}
use Rattle.grounder.proofs.constraint_terms.hard_terms.Goals as goal

pub push_hard-requires : goal.push_hard-requires
push_hard-requires c = each_fits (leaf_fits (ground_of c.args.grounding.now).world) constraint_leaf c.args.leaves.now c.loop-leaf.leaf-index c.leaf-item.result c.loop-leaf-test.true c.leaf-item.is c.requires

pub loop-leaf-preserved : goal.loop-leaf-preserved
loop-leaf-preserved c =
    joined_of_more c.args.leaves.now c.loop-leaf.leaf-index c.leaf-item.result c.loop-leaf-test.true c.leaf-item.is
    constraint_leaf (hard_of (ground_of c.args.grounding.now)) [] c.loop-leaf.out c.push_hard.new.out c.loop-leaf.invariant c.in_ok-push_hard.ensures

pub returns : goal.returns
unfolding hard_terms
returns c =
    c.loop-leaf.invariant
    ∙ ap (λ (l : List ConstraintLeaf). flat_map (hard_of (ground_of c.args.grounding.now)) (constraints_of l)) (take_all c.loop-leaf.leaf-index c.args.leaves.now c.loop-leaf-test.false)
