use Rattle.ground_world.proofs.NewNames.{constraint_names-next}
use Rattle.ground_world.proofs.metric_unknowns.add_constraints.Goals as goal

pub loop-leaf-preserved : goal.loop-leaf-preserved
loop-leaf-preserved c =
    constraint_names-next c.args.names.now _ _ c.args.leaves.now c.loop-leaf.leaf-index c.leaf-item.result
    c.loop-leaf-test.true c.leaf-item.is c.loop-leaf.invariant c.in_ok-add_constraint.ensures
