use Rattle.pddl_forms.specs.TypedLists.{declared_offences}
use Rattle.pddl_forms.proofs.Least.{least-next}
use Rattle.pddl_forms.proofs.typed_lists.least_of_all_declared.Goals as goal

pub loop-each-preserved : goal.loop-each-preserved
loop-each-preserved c = least-next declared_offences c.args.found c.loop-each.found c.least_of_declared-found.result c.args.declared.now c.loop-each.each-index c.each-item.result c.loop-each-test.true c.each-item.is c.loop-each.invariant c.least_of_declared-found.ensures
