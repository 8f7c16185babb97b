use Rattle.std.proofs.Common.{◌≡◌, take}
use Rattle.pddl_names.specs.Offences.{least}
use Rattle.pddl_names.specs.Calls.{types_offences}
use Rattle.pddl_names.proofs.calls.first_in_types.Given as goal

abbrev pub invariant-loop-group : goal.invariant-loop-group
invariant-loop-group l = l.found ≡ least (types_offences l.tables (take l.group-index l.groups))
