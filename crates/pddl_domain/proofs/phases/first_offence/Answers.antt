use Rattle.std.proofs.Common.{◌∙◌, sym, List, [], ◌∷◌}
use Rattle.pddl_terms.specs.declared.files.Domain.{Domain}
use Rattle.pddl_names.specs.declared.offences.Offence.{Offence}
use Rattle.pddl_names.specs.Files.{name_offences, type_offences_of}
use Rattle.pddl_forms.specs.Forms.{domain_forms}
use Rattle.pddl_forms.specs.Limits.{domain_limits}
use Rattle.pddl_domain.specs.Readings.{domain_offence}
use Rattle.pddl_domain.proofs.Joining.{in_phase, past_phase, last_phase}
use Rattle.pddl_domain.proofs.phases.first_offence.Goals as goal

abbrev behind_types : Domain → List (List Offence)
behind_types d = domain_forms d ∷ domain_limits d ∷ []

abbrev behind_names : Domain → List (List Offence)
behind_names d = type_offences_of d ∷ behind_types d

pub returns-in-Some : goal.returns-in-Some
unfolding domain_offence
returns-in-Some c =
    let d = c.args.domain.now in
    in_phase (name_offences d) (behind_names d) _ (sym c.in-Some.is ∙ c.in_ok-offence.ensures)

pub returns-in-Some-2 : goal.returns-in-Some-2
unfolding domain_offence
returns-in-Some-2 c =
    let d = c.args.domain.now in
    past_phase (name_offences d) (behind_names d) _ (sym c.in_default.is ∙ c.in_ok-offence.ensures)
    (in_phase (type_offences_of d) (behind_types d) _ (sym c.in-Some-2.is ∙ c.in_ok-offence-2.ensures))

pub returns-in-Some-3 : goal.returns-in-Some-3
unfolding domain_offence
returns-in-Some-3 c =
    let d = c.args.domain.now in
    past_phase (name_offences d) (behind_names d) _ (sym c.in_default.is ∙ c.in_ok-offence.ensures)
    (past_phase (type_offences_of d) (behind_types d) _ (sym c.in_default-2.is ∙ c.in_ok-offence-2.ensures)
    (in_phase (domain_forms d) (domain_limits d ∷ []) _ (sym c.in-Some-3.is ∙ c.in_ok-offence-3.ensures)))

pub returns : goal.returns
unfolding domain_offence
returns c =
    let d = c.args.domain.now in
    past_phase (name_offences d) (behind_names d) _ (sym c.in_default.is ∙ c.in_ok-offence.ensures)
    (past_phase (type_offences_of d) (behind_types d) _ (sym c.in_default-2.is ∙ c.in_ok-offence-2.ensures)
    (past_phase (domain_forms d) (domain_limits d ∷ []) _ (sym c.in_default-3.is ∙ c.in_ok-offence-3.ensures)
    (last_phase (domain_limits d) _ c.domain_limit_offence.ensures)))
