use Rattle.std.proofs.Common.{◌∙◌, ap}
use Rattle.pddl_names.specs.Offences.{least}
use Rattle.pddl_forms.specs.Forms.{some_offences}
use Rattle.ground_world.specs.Leaves.{unknowns}
use Rattle.metric_sign.specs.Signs.{valued_offences}
use Rattle.metric_sign.proofs.signs.least_of_problem.Goals as goal

pub returns : goal.returns
returns c =
    c.in_ok-found.ensures
    ∙ ap (λ w. least (some_offences (valued_offences w (unknowns c.args.domain.now c.args.problem.now)) c.args.problem.now.metric)) c.in_ok-tables.ensures
