use Rattle.std.proofs.Common.{◌∙◌, ap}
use Rattle.pddl_forms.specs.Formulas.{constraint_offences}
use Rattle.pddl_forms.proofs.FormulaOffences.{constraint_offences-and}
use Rattle.pddl_forms.proofs.Least.{least-next, least-end}
use Rattle.pddl_forms.proofs.formulas.+least_of_constraint.Goals as goal

pub loop-part-preserved : goal.loop-part-preserved
loop-part-preserved t c = least-next (constraint_offences c.args.functions.now) c.args.found c.loop-part.found c.least_of_constraint-found.result c.as_slice-part-items.result.now c.loop-part.part-index c.part-item.result c.loop-part-test.true c.part-item.is c.loop-part.invariant c.least_of_constraint-found.ensures

pub returns-after-loop-part : goal.returns-after-loop-part
returns-after-loop-part t c = least-end (constraint_offences c.args.functions.now) c.args.found c.loop-part.found c.as_slice-part-items.result.now c.in-And.parts c.loop-part.part-index _ c.loop-part-test.false c.as_slice-part-items.ensures c.loop-part.invariant (ap (constraint_offences c.args.functions.now) c.in-And.is ∙ constraint_offences-and c.args.functions.now c.in-And.field-0 c.in-And.parts)
