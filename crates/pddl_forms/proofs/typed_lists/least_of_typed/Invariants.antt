use Rattle.std.proofs.Common.{◌≡◌, take}
use Rattle.std.specs.List.{flat_map}
use Rattle.pddl_forms.specs.Offences.{least_with}
use Rattle.pddl_forms.specs.TypedLists.{group_offences}
use Rattle.pddl_forms.proofs.typed_lists.least_of_typed.Given as goal

abbrev pub invariant-loop-group : goal.invariant-loop-group
invariant-loop-group l = l.found ≡ least_with l.fn.found (flat_map group_offences (take l.group-index l.groups))
