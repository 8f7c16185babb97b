use Rattle.std.proofs.Common.{sym}
use Rattle.pddl_forms.proofs.Least.{least_with-none, least-next}
use Rattle.ground_world.specs.Readings.{world_in, unknowns_in}
use Rattle.metric_sign.specs.Signs.{term_offences}
use Rattle.metric_sign.proofs.signs.+terms.Goals as goal

pub least_of_parts-loop-part-init : goal.least_of_parts-loop-part-init
least_of_parts-loop-part-init t c = sym (least_with-none c.args.found)

pub least_of_parts-loop-part-preserved : goal.least_of_parts-loop-part-preserved
least_of_parts-loop-part-preserved t c =
    least-next (term_offences (world_in c.args.reading.now) (unknowns_in c.args.reading.now) c.args.form.now) c.args.found c.loop-part.found _ c.args.parts.now c.loop-part.part-index c.part-item.result c.loop-part-test.true c.part-item.is c.loop-part.invariant c.least_of_terms-found.ensures
