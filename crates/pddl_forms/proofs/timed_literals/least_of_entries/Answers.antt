use Rattle.pddl_forms.specs.TimedLiterals.{entry_offences}
use Rattle.pddl_forms.proofs.Least.{least-next}
use Rattle.pddl_forms.proofs.timed_literals.least_of_entries.Goals as goal

pub loop-entry-preserved : goal.loop-entry-preserved
loop-entry-preserved c = least-next entry_offences c.args.found c.loop-entry.found c.least_of_entry-found.result c.args.entries.now c.loop-entry.entry-index c.entry-item.result c.loop-entry-test.true c.entry-item.is c.loop-entry.invariant c.least_of_entry-found.ensures
