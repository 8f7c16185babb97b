use Rattle.pddl_names.specs.Declarations.{typed_of}
use Rattle.pddl_names.proofs.Doubling.{firsts-loop}
use Rattle.pddl_names.proofs.typed_lists.add_typed.Goals as goal

pub loop-group-preserved : goal.loop-group-preserved
loop-group-preserved c = firsts-loop typed_of _ _ _ c.group-item.result _ _ c.loop-group-test.true c.group-item.is c.loop-group.invariant c.in_ok-add_group.ensures
