use Rattle.std.proofs.Common.{◌∙◌, sym, List, [], ◌∷◌}
use Rattle.pddl_terms.specs.declared.files.Domain.{Domain}
use Rattle.pddl_terms.specs.declared.files.Problem.{Problem}
use Rattle.pddl_names.specs.declared.offences.Offence.{Offence}
use Rattle.pddl_names.specs.Files.{problem_name_offences, problem_type_offences}
use Rattle.pddl_forms.specs.Limits.{problem_limits}
use Rattle.pddl_domain.proofs.Joining.{in_phase, past_phase, last_phase}
use Rattle.pddl_problem.specs.Readings.{form_offences, problem_offence}
use Rattle.pddl_problem.proofs.phases.first_offence.Goals as goal

abbrev behind_types : Domain → Problem → List (List Offence)
behind_types d p = form_offences d p ∷ problem_limits d p ∷ []

abbrev behind_names : Domain → Problem → List (List Offence)
behind_names d p = problem_type_offences d p ∷ behind_types d p

pub returns-in-Some : goal.returns-in-Some
unfolding problem_offence
returns-in-Some c =
    let d = c.args.domain.now in
    let p = c.args.problem.now in
    in_phase (problem_name_offences d p) (behind_names d p) _ (sym c.in-Some.is ∙ c.in_ok-offence.ensures)

pub returns-in-Some-2 : goal.returns-in-Some-2
unfolding problem_offence
returns-in-Some-2 c =
    let d = c.args.domain.now in
    let p = c.args.problem.now in
    past_phase (problem_name_offences d p) (behind_names d p) _ (sym c.in_default.is ∙ c.in_ok-offence.ensures)
    (in_phase (problem_type_offences d p) (behind_types d p) _ (sym c.in-Some-2.is ∙ c.in_ok-offence-2.ensures))

pub returns-in-Some-3 : goal.returns-in-Some-3
unfolding problem_offence
returns-in-Some-3 c =
    let d = c.args.domain.now in
    let p = c.args.problem.now in
    past_phase (problem_name_offences d p) (behind_names d p) _ (sym c.in_default.is ∙ c.in_ok-offence.ensures)
    (past_phase (problem_type_offences d p) (behind_types d p) _ (sym c.in_default-2.is ∙ c.in_ok-offence-2.ensures)
    (in_phase (form_offences d p) (problem_limits d p ∷ []) _ (sym c.in-Some-3.is ∙ c.in_ok-offence-3.ensures)))

pub returns : goal.returns
unfolding problem_offence
returns c =
    let d = c.args.domain.now in
    let p = c.args.problem.now in
    past_phase (problem_name_offences d p) (behind_names d p) _ (sym c.in_default.is ∙ c.in_ok-offence.ensures)
    (past_phase (problem_type_offences d p) (behind_types d p) _ (sym c.in_default-2.is ∙ c.in_ok-offence-2.ensures)
    (past_phase (form_offences d p) (problem_limits d p ∷ []) _ (sym c.in_default-3.is ∙ c.in_ok-offence-3.ensures)
    (last_phase (problem_limits d p) _ c.problem_limit_offence.ensures)))
