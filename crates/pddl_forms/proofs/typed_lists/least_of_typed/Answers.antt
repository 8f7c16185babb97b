use Rattle.pddl_forms.specs.TypedLists.{group_offences}
use Rattle.pddl_forms.proofs.Least.{least-next}
use Rattle.pddl_forms.proofs.typed_lists.least_of_typed.Goals as goal

pub loop-group-preserved : goal.loop-group-preserved
loop-group-preserved c = least-next group_offences c.args.found c.loop-group.found c.least_of_type-found.result c.args.groups.now c.loop-group.group-index c.group-item.result c.loop-group-test.true c.group-item.is c.loop-group.invariant c.least_of_type-found.ensures
