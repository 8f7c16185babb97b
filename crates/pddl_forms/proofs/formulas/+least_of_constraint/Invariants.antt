use Rattle.std.proofs.Common.{◌≡◌, take}
use Rattle.std.specs.List.{flat_map}
use Rattle.pddl_forms.specs.Offences.{least_with}
use Rattle.pddl_forms.specs.Formulas.{constraint_offences}
use Rattle.pddl_forms.proofs.formulas.+least_of_constraint.Given as goal

abbrev pub decreases-least_of_constraint : goal.decreases-least_of_constraint
decreases-least_of_constraint l = goal.size-least_of_constraint l

abbrev pub invariant-loop-part : goal.invariant-loop-part
invariant-loop-part l = l.found ≡ least_with l.fn.found (flat_map (constraint_offences l.functions) (take l.part-index l.part-items))
