use Rattle.std.proofs.Common.{◌∙◌, ap, None}
use Rattle.pddl_forms.specs.Conditions.{condition_below}
use Rattle.pddl_forms.proofs.ConditionOffences.{condition_below-and}
use Rattle.pddl_forms.proofs.Least.{least-next, least-end}
use Rattle.pddl_forms.proofs.conditions.+least_below.Goals as goal

pub loop-part-preserved : goal.loop-part-preserved
loop-part-preserved t c = least-next (condition_below c.args.functions.now None) c.args.found c.loop-part.found c.least_below-found.result c.as_slice-part-items.result.now c.loop-part.part-index c.part-item.result c.loop-part-test.true c.part-item.is c.loop-part.invariant c.least_below-found.ensures

pub returns-after-loop-part : goal.returns-after-loop-part
returns-after-loop-part t c = least-end (condition_below c.args.functions.now None) c.args.found c.loop-part.found c.as_slice-part-items.result.now c.in-And.parts c.loop-part.part-index _ c.loop-part-test.false c.as_slice-part-items.ensures c.loop-part.invariant (ap (condition_below c.args.functions.now c.args.above) c.in-And.is ∙ condition_below-and c.args.functions.now c.args.above c.in-And.field-0 c.in-And.parts)
