use Rattle.std.proofs.Common.{◌∙◌, ap}
use Rattle.pddl_forms.specs.Conditions.{duration_offences}
use Rattle.pddl_forms.proofs.ConditionOffences.{duration_offences-and}
use Rattle.pddl_forms.proofs.Least.{least-next, least-end}
use Rattle.pddl_forms.proofs.conditions.+least_of_duration.Goals as goal

pub loop-part-preserved : goal.loop-part-preserved
loop-part-preserved t c = least-next (duration_offences c.args.functions.now) c.args.found c.loop-part.found c.least_of_duration-found.result c.as_slice-part-items.result.now c.loop-part.part-index c.part-item.result c.loop-part-test.true c.part-item.is c.loop-part.invariant c.least_of_duration-found.ensures

pub returns-after-loop-part : goal.returns-after-loop-part
returns-after-loop-part t c = least-end (duration_offences c.args.functions.now) c.args.found c.loop-part.found c.as_slice-part-items.result.now c.in-And.parts c.loop-part.part-index _ c.loop-part-test.false c.as_slice-part-items.ensures c.loop-part.invariant (ap (duration_offences c.args.functions.now) c.in-And.is ∙ duration_offences-and c.args.functions.now c.in-And.field-0 c.in-And.parts)
