use Rattle.std.proofs.Common.{◌≡◌, length, []}
use Rattle.pddl_forms.specs.Offences.{least_with}
use Rattle.pddl_forms.specs.TimedLiterals.{timed_literals}
use Rattle.pddl_forms.specs.Keys.{clashes_seen}
use Rattle.pddl_forms.proofs.timed_literals.least_of_clashes.Given as goal

abbrev pub decreases-loop-entry : goal.decreases-loop-entry
decreases-loop-entry l = length l.left

abbrev pub invariant-loop-entry : goal.invariant-loop-entry
invariant-loop-entry l = least_with l.found (clashes_seen l.seen (timed_literals l.left)) ≡ least_with l.fn.found (clashes_seen [] (timed_literals l.fn.entries))
