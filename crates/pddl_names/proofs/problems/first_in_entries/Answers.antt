use Rattle.pddl_names.specs.Files.{entry_offences}
use Rattle.pddl_names.proofs.Least.{least-loop}
use Rattle.pddl_names.proofs.problems.first_in_entries.Goals as goal

pub loop-item-preserved : goal.loop-item-preserved
loop-item-preserved c = least-loop (entry_offences c.args.phase c.args.tables.now) _ _ c.item-item.result _ _ _ c.loop-item-test.true c.item-item.is c.loop-item.invariant c.earlier-found.ensures c.first_in_entry-other.ensures
