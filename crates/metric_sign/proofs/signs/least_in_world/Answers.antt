use Rattle.std.proofs.Common.{◌∙◌, ap}
use Rattle.pddl_names.specs.Offences.{least}
use Rattle.pddl_forms.specs.Forms.{some_offences}
use Rattle.ground_world.specs.Shown.{world_of}
use Rattle.metric_sign.specs.Signs.{valued_offences}
use Rattle.metric_sign.proofs.signs.least_in_world.Goals as goal

pub returns : goal.returns
returns c =
    c.in_ok-found.ensures
    ∙ ap (λ us. least (some_offences (valued_offences (world_of c.args.tables.now) us) c.args.problem.now.metric)) c.in_ok-names.ensures
