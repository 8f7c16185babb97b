use Rattle.std.proofs.Common.{refl, subst, List, [], ◌++◌, take}
use Rattle.std.specs.List.{flat_map}
use Rattle.ground_world.specs.Shown.{world_of}
use Rattle.ground_world.specs.ShownLeaves.{preferences_of}
use Rattle.grounder.specs.Answer.{Unit}
use Rattle.grounder.specs.Reach.{preference_fits}
use Rattle.grounder.specs.ShownTerms.{preference_leaf}
use Rattle.grounder.specs.ShownUnits.{AreLeast}
use Rattle.grounder.specs.Units.{preference_units}
use Rattle.grounder.proofs.LeafSteps.{each_fits}
use Rattle.grounder.proofs.OneByOne.{joined_of_more}
use Rattle.grounder.proofs.units.preference_faults.Goals as goal

pub instance_faults-requires : goal.instance_faults-requires
instance_faults-requires c =
    each_fits (preference_fits (world_of c.args.tables.now)) preference_leaf c.args.leaves.now c.loop-leaf.leaf-index c.leaf-item.result c.loop-leaf-test.true c.leaf-item.is c.requires

pub loop-leaf-init : goal.loop-leaf-init
loop-leaf-init c = c.no_faults-found.ensures (world_of c.args.tables.now)

pub loop-leaf-preserved : goal.loop-leaf-preserved
loop-leaf-preserved c =
    let w = world_of c.args.tables.now in
    let before = flat_map (preference_units w) (preferences_of (take c.loop-leaf.leaf-index c.args.leaves.now)) in
    let own = preference_units w (preference_leaf c.leaf-item.result) in
    subst (λ (us : List Unit). AreLeast w us c.both-found.result)
    (joined_of_more c.args.leaves.now c.loop-leaf.leaf-index c.leaf-item.result c.loop-leaf-test.true c.leaf-item.is
    preference_leaf (preference_units w) [] before (before ++ own) refl refl)
    (c.both-found.ensures w before own c.loop-leaf.invariant c.in_ok-instance_faults.ensures)
