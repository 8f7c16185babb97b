use Rattle.std.proofs.Common.{◌∙◌, sym, ap, []}
use Rattle.pddl_names.specs.Offences.{least}
use Rattle.pddl_forms.proofs.Least.{least_with-all}
use Rattle.ground_world.specs.World.{either}
use Rattle.ground_world.specs.Readings.{world_in, unknowns_in}
use Rattle.metric_sign.specs.Signs.{term_offences}
use Rattle.metric_sign.proofs.signs.least_of_form.Goals as goal

pub returns-in-Some : goal.returns-in-Some
returns-in-Some c =
    let w = world_in c.args.reading.now in
    let us = unknowns_in c.args.reading.now in
    let e = c.args.metric.now.expression in
    c.least_of_terms.ensures ∙ least_with-all (term_offences w us c.in-Some.form e)
    ∙ sym (ap (λ form. least (either [] (λ f. term_offences w us f e) form)) c.in-Some.is)
