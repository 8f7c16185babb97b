use Rattle.std.proofs.Common.{◌≡◌, take}
use Rattle.std.specs.List.{flat_map}
use Rattle.pddl_forms.specs.Offences.{least_with}
use Rattle.pddl_forms.specs.Formulas.{formula_in}
use Rattle.pddl_forms.specs.declared.formulas.Around.TheVariants as around
use Rattle.pddl_forms.proofs.formulas.+least_in_formula.Given as goal

abbrev pub decreases-least_in_formula : goal.decreases-least_in_formula
decreases-least_in_formula l = goal.size-least_in_formula l

abbrev pub invariant-loop-part : goal.invariant-loop-part
invariant-loop-part l = l.found ≡ least_with l.fn.found (flat_map (formula_in l.functions around.Formula) (take l.part-index l.part-items))
