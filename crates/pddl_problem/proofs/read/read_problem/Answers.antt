use Rattle.std.proofs.Common.{sym, ap, ◌∙◌}
use Rattle.pddl_terms.proofs.FileReading.{file-memory}
use Rattle.pddl_domain.specs.Phases.{refusal_for}
use Rattle.pddl_domain.proofs.Joining.{accepted, offended, misshapen}
use Rattle.pddl_problem.specs.Problems.{wrong_problem, problem_told}
use Rattle.pddl_problem.specs.Readings.{problem_refusal}
use Rattle.pddl_problem.proofs.read.read_problem.Goals as goal

pub returns-in-Err : goal.returns-in-Err
returns-in-Err c = misshapen wrong_problem problem_told (problem_refusal c.args.domain.now) _ _ c.in-Err.ensures

pub returns-in-Ok-None : goal.returns-in-Ok-None
returns-in-Ok-None c = accepted wrong_problem problem_told (problem_refusal c.args.domain.now) _ _ c.in-Ok.ensures (ap refusal_for (sym c.in-Ok-None.ensures ∙ c.in-Ok-None.field-0-is))

pub returns-in-Ok-Some : goal.returns-in-Ok-Some
returns-in-Ok-Some c = offended wrong_problem problem_told (problem_refusal c.args.domain.now) _ _ _ _ c.in-Ok.ensures (ap refusal_for (sym c.in-Ok-Some.ensures ∙ c.in-Ok-Some.field-0-is))

pub returns-in-Err-first_offence : goal.returns-in-Err-first_offence
returns-in-Err-first_offence c = file-memory _ _ _ _
