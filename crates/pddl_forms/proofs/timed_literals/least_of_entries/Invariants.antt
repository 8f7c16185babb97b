use Rattle.std.proofs.Common.{◌≡◌, take}
use Rattle.std.specs.List.{flat_map}
use Rattle.pddl_forms.specs.Offences.{least_with}
use Rattle.pddl_forms.specs.TimedLiterals.{entry_offences}
use Rattle.pddl_forms.proofs.timed_literals.least_of_entries.Given as goal

abbrev pub invariant-loop-entry : goal.invariant-loop-entry
invariant-loop-entry l = l.found ≡ least_with l.fn.found (flat_map entry_offences (take l.entry-index l.entries))
