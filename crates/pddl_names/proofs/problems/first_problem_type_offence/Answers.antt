use Rattle.std.proofs.Common.{◌∙◌, ap}
use Rattle.pddl_names.specs.declared.offences.Phase.TheVariants as phase
use Rattle.pddl_names.specs.Offences.{least}
use Rattle.pddl_names.specs.Files.{problem_offences}
use Rattle.pddl_names.proofs.problems.first_problem_type_offence.Goals as goal

pub returns : goal.returns
returns c = c.in_ok-first_in_problem.ensures ∙ ap (λ w. least (problem_offences phase.Types w c.args.domain.now c.args.problem.now)) c.in_ok-tables.ensures
