use Rattle.std.proofs.Common.{◌≡◌, length}
use Rattle.pddl_names.specs.Offences.{earlier, least}
use Rattle.pddl_names.specs.Scopes.{variables_of}
use Rattle.pddl_names.specs.Calls.{misfits}
use Rattle.pddl_names.proofs.calls.first_misfit.Given as goal

abbrev pub invariant-loop-term : goal.invariant-loop-term
invariant-loop-term l = earlier l.found (least (misfits l.tables (variables_of l.scope) l.left l.wanted)) ≡ least (misfits l.tables (variables_of l.scope) l.terms l.sorts)

abbrev pub decreases-loop-term : goal.decreases-loop-term
decreases-loop-term l = length l.left
