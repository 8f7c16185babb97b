use Rattle.std.proofs.Common.{◌∙◌, ap}
use Rattle.pddl_forms.specs.Effects.{timed_effect_offences}
use Rattle.pddl_forms.proofs.EffectOffences.{timed_effect_offences-and}
use Rattle.pddl_forms.proofs.Least.{least-next, least-end}
use Rattle.pddl_forms.proofs.effects.+least_of_timed_effect.Goals as goal

pub loop-part-preserved : goal.loop-part-preserved
loop-part-preserved t c = least-next (timed_effect_offences c.args.functions.now) c.args.found c.loop-part.found c.least_of_timed_effect-found.result c.as_slice-part-items.result.now c.loop-part.part-index c.part-item.result c.loop-part-test.true c.part-item.is c.loop-part.invariant c.least_of_timed_effect-found.ensures

pub returns-after-loop-part : goal.returns-after-loop-part
returns-after-loop-part t c = least-end (timed_effect_offences c.args.functions.now) c.args.found c.loop-part.found c.as_slice-part-items.result.now c.in-And.parts c.loop-part.part-index _ c.loop-part-test.false c.as_slice-part-items.ensures c.loop-part.invariant (ap (timed_effect_offences c.args.functions.now) c.in-And.is ∙ timed_effect_offences-and c.args.functions.now c.in-And.field-0 c.in-And.parts)
