use Rattle.std.proofs.Common.{◌∙◌, sym, ap, None, ◌++◌}
use Rattle.pddl_forms.specs.Offences.{least_with}
use Rattle.pddl_forms.specs.TypedLists.{typed_offences}
use Rattle.pddl_forms.specs.Requirements.{requirements_offences}
use Rattle.pddl_forms.specs.TimedLiterals.{init_offences}
use Rattle.pddl_forms.proofs.Least.{least_with-append}
use Rattle.pddl_forms.proofs.forms.least_of_facts.Goals as goal

pub returns : goal.returns
returns c =
    c.in_ok-found.ensures
    ∙ ap (λ f. least_with f (init_offences c.as_slice.result.now)) c.least_before_init-found.ensures
    ∙ sym (least_with-append None (requirements_offences c.args.problem.now.requirements ++ typed_offences c.args.problem.now.objects) (init_offences c.as_slice.result.now))
    ∙ ap (λ es. least_with None ((requirements_offences c.args.problem.now.requirements ++ typed_offences c.args.problem.now.objects) ++ init_offences es)) c.as_slice.ensures
