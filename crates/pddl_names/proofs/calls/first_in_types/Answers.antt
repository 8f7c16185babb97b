use Rattle.pddl_names.specs.Calls.{type_offences}
use Rattle.pddl_names.proofs.Least.{least-loop}
use Rattle.pddl_names.proofs.calls.first_in_types.Goals as goal

pub loop-group-preserved : goal.loop-group-preserved
loop-group-preserved c = least-loop (λ g. type_offences c.args.tables.now g.of) _ _ c.group-item.result _ _ _ c.loop-group-test.true c.group-item.is c.loop-group.invariant c.earlier-found.ensures c.first_in_type.ensures
