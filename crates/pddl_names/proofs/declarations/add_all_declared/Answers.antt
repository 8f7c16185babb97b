use Rattle.pddl_names.specs.Declarations.{signature_of}
use Rattle.pddl_names.proofs.Doubling.{firsts-loop}
use Rattle.pddl_names.proofs.declarations.add_all_declared.Goals as goal

pub loop-item-preserved : goal.loop-item-preserved
loop-item-preserved c = firsts-loop signature_of _ _ _ c.item-item.result _ _ c.loop-item-test.true c.item-item.is c.loop-item.invariant c.in_ok-add_declared.ensures
