use Rattle.std.proofs.Common.{List, take}
use Rattle.pddl_names.specs.Declarations.{Typed, typed, typed_of, with_firsts}
use Rattle.ground_world.proofs.FirstDeclared.{lists-loop}
use Rattle.ground_world.proofs.declarations.add_objects.Goals as goal

pub loop-group-preserved : goal.loop-group-preserved
loop-group-preserved c = λ es h.
    lists-loop typed_of es _ c.loop-group.group-index c.group-item.result _ _ c.loop-group-test.true c.group-item.is
    (c.in_ok-add_group.ensures (with_firsts es (typed (take c.loop-group.group-index c.args.groups.now))) (c.loop-group.invariant es h))
