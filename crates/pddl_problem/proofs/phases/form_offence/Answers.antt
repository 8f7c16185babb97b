use Rattle.std.proofs.Common.{◌∙◌}
use Rattle.pddl_names.proofs.Least.{least-both}
use Rattle.pddl_forms.specs.Forms.{problem_forms}
use Rattle.metric_sign.specs.Signs.{metric_sign_offences}
use Rattle.pddl_problem.proofs.phases.form_offence.Goals as goal

pub returns : goal.returns
returns c =
    let d = c.args.domain.now in
    let p = c.args.problem.now in
    c.earlier.ensures ∙ least-both c.in_ok-wrong.wrong c.in_ok-rewarding.rewarding (problem_forms d p) (metric_sign_offences d p) c.in_ok-wrong.ensures c.in_ok-rewarding.ensures
