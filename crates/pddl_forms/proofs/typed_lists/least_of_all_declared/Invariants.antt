use Rattle.std.proofs.Common.{◌≡◌, take}
use Rattle.std.specs.List.{flat_map}
use Rattle.pddl_forms.specs.Offences.{least_with}
use Rattle.pddl_forms.specs.TypedLists.{declared_offences}
use Rattle.pddl_forms.proofs.typed_lists.least_of_all_declared.Given as goal

abbrev pub invariant-loop-each : goal.invariant-loop-each
invariant-loop-each l = l.found ≡ least_with l.fn.found (flat_map declared_offences (take l.each-index l.declared))
