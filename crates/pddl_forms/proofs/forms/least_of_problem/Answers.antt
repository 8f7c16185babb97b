use Rattle.std.proofs.Common.{◌∙◌, sym, ap, None, ◌++◌}
use Rattle.pddl_forms.specs.Offences.{least_with}
use Rattle.pddl_forms.specs.Forms.{facts_offences, wishes_offences, sections_offences, problem_forms_with}
use Rattle.pddl_forms.proofs.Least.{least_with-append, least_with-all}
use Rattle.pddl_forms.proofs.forms.least_of_problem.Goals as goal

pub returns : goal.returns
unfolding problem_forms_with
returns c =
    c.least_behind_facts.ensures
    ∙ ap (λ f. least_with f (wishes_offences c.args.functions.now c.args.problem.now ++ sections_offences c.args.problem.now.left_out)) c.in_ok-found.ensures
    ∙ sym (least_with-append None (facts_offences c.args.problem.now) (wishes_offences c.args.functions.now c.args.problem.now ++ sections_offences c.args.problem.now.left_out))
    ∙ least_with-all (facts_offences c.args.problem.now ++ (wishes_offences c.args.functions.now c.args.problem.now ++ sections_offences c.args.problem.now.left_out))
