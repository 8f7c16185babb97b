use Rattle.pddl_problem.specs.Problems.{wrong_problem, problem_told}
use Rattle.pddl_problem.specs.Readings.{problem_refusal}
use Rattle.planner_core.specs.declared.reply.Role.TheVariants.{Problem}
use Rattle.planner_core.specs.Replies.{role_word}
use Rattle.planner_core.specs.Answers.{ProblemRefused}
use Rattle.planner_core.specs.Steps.{ReadProblem, OfFiles}
use Rattle.planner_core.proofs.Steps.{accepted, made, stopped, refused_file}
use Rattle.planner_core.proofs.validation.domain_reply.Goals as goal

pub files_reply-requires-clause-accepted : goal.files_reply-requires-clause-accepted
files_reply-requires-clause-accepted c = accepted c.args.domain.now c.args.problem.now c.in-Ok.problem c.requires.read c.requires.problem c.in-Ok.ensures.read

pub returns-in-Ok : goal.returns-in-Ok
returns-in-Ok c =
    made (ReadProblem c.args.domain.now c.args.problem.now) ProblemRefused (OfFiles c.args.rules.now c.args.plan.now c.args.domain.now) c.in-Ok.problem _ c.in-Ok.ensures.read c.files_reply.ensures

pub returns-in-Err : goal.returns-in-Err
returns-in-Err c =
    stopped (ReadProblem c.args.domain.now c.args.problem.now) ProblemRefused (OfFiles c.args.rules.now c.args.plan.now c.args.domain.now) c.in-Err.fault _
    (refused_file wrong_problem problem_told (problem_refusal c.args.domain.now) c.args.problem.now (role_word Problem) c.in-Err.fault c.in-Err.ensures.fault) c.file_refused.ensures
