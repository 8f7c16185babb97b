use Rattle.pddl_names.specs.Files.{declared_offences}
use Rattle.pddl_names.proofs.Least.{least-loop}
use Rattle.pddl_names.proofs.domains.first_in_each_declared.Goals as goal

pub loop-item-preserved : goal.loop-item-preserved
loop-item-preserved c = least-loop (declared_offences c.args.phase c.args.tables.now) _ _ c.item-item.result _ _ _ c.loop-item-test.true c.item-item.is c.loop-item.invariant c.earlier-found.ensures c.in_ok-other.ensures
