use Rattle.std.proofs.Common.{◌∙◌, sym}
use Rattle.pddl_forms.specs.Forms.{section_offences}
use Rattle.pddl_forms.proofs.Least.{least-next_at, least_with-one}
use Rattle.pddl_forms.proofs.forms.least_of_sections.Goals as goal

pub loop-at-preserved : goal.loop-at-preserved
loop-at-preserved c = least-next_at section_offences c.args.found c.loop-at.found c.met-found.result c.args.places.now c.loop-at.at-index 0 c.loop-at-test.true c.loop-at.invariant (c.met-found.ensures ∙ sym (least_with-one _ _))
