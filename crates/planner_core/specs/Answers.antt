-- Believed: what is answered to a domain, a problem and a plan.
use Rattle.std.specs.Prelude.{◌≡◌, ℕ, List, Option, Some, Ok, Err}
use Rattle.command_words.specs.declared.requests.Limits.{Limits}
use Rattle.pddl_terms.specs.declared.faults.PddlFault.{PddlFault}
use Rattle.pddl_terms.specs.declared.files.Domain.{Domain}
use Rattle.pddl_terms.specs.declared.files.Problem.{Problem}
use Rattle.pddl_domain.specs.Readings.{IsDomain, IsDomainFault}
use Rattle.pddl_problem.specs.Readings.{IsProblem, IsProblemFault}
use Rattle.grounder.specs.declared.faults.GroundFault.{GroundFault}
use Rattle.grounder.specs.Answer.{ground_answer}
use Rattle.task_types.specs.declared.parts.Rules.{Rules}
use Rattle.task_types.specs.declared.parts.TaskParts.{TaskParts}
use Rattle.task_types.specs.Plan.{Plan}
use Rattle.plan_files.specs.declared.faults.LineKind.{LineKind}
use Rattle.plan_files.specs.PlanFiles.{IsPlanFile, IsRefusedAt}
use Rattle.plan_validator.specs.declared.verdicts.Verdict.{Verdict}
use Rattle.plan_validator.specs.Verdicts.{IsWideAt, Validates as Judges}
use Rattle.planner_core.specs.declared.reply.Role.TheVariants as role
use Rattle.planner_core.specs.Replies.{Said, role_word}
use Rattle.planner_core.specs.Validations.{pddl_said, ground_said, line_said, wide_said, verdict_said}

-- what is answered to three texts: the fault of the first step of the work that has one, or the verdict on the plan
pub data Answer : Type 0 where
  DomainRefused : PddlFault → Answer
  ProblemRefused : PddlFault → Answer
  -- the domain and the problem have no ground task
  GroundRefused : GroundFault → Answer
  -- the plan file is refused at a line, or the end of a line passes 128 bits
  PlanRefused : (line : ℕ) → LineKind → Answer
  -- something that the course of the plan reckons passes 128 bits
  WideAt : (happening : ℕ) → Answer
  Decided : Verdict → Answer

-- the least distance and the latest time that the words set
abbrev pub rules_of : Limits → Rules
rules_of limits = record { epsilon = limits.epsilon; horizon = limits.horizon }

-- The texts are those of a domain and of a problem of it.
pub record AreFiles (domain_text problem_text : List ℕ) (domain : Domain) (problem : Problem) : Type 0 where
  pub domain_read : IsDomain domain_text domain
  pub problem_read : IsProblem domain problem_text problem

-- They make this ground task.
pub record MakeTask (domain_text problem_text : List ℕ) (task : TaskParts) : Type 0 where
  pub domain : Domain
  pub problem : Problem
  pub files : AreFiles domain_text problem_text domain problem
  pub ground : ground_answer domain problem ≡ Ok task

-- They make this ground task, and the third is that of this plan.
pub record AreRead (domain_text problem_text plan_text : List ℕ) (task : TaskParts) (plan : Plan) : Type 0 where
  pub made : MakeTask domain_text problem_text task
  pub plan_read : IsPlanFile task plan_text plan

-- The answer is right under these rules. Each step of the work comes after those before it had no fault.
abbrev pub IsAnswer : Rules → (domain_text problem_text plan_text : List ℕ) → Answer → Type 0
IsAnswer rules domain_text problem_text plan_text (DomainRefused fault) = IsDomainFault domain_text fault
IsAnswer rules domain_text problem_text plan_text (ProblemRefused fault) =
    (domain : Domain) × (IsDomain domain_text domain × IsProblemFault domain problem_text fault)
IsAnswer rules domain_text problem_text plan_text (GroundRefused fault) =
    (domain : Domain) × ((problem : Problem)
    × (AreFiles domain_text problem_text domain problem × (ground_answer domain problem ≡ Err fault)))
IsAnswer rules domain_text problem_text plan_text (PlanRefused line kind) =
    (task : TaskParts) × (MakeTask domain_text problem_text task × IsRefusedAt task plan_text (line, kind))
IsAnswer rules domain_text problem_text plan_text (WideAt happening) =
    (task : TaskParts) × ((plan : Plan)
    × (AreRead domain_text problem_text plan_text task plan × IsWideAt task rules plan happening))
IsAnswer rules domain_text problem_text plan_text (Decided verdict) =
    (task : TaskParts) × ((plan : Plan)
    × (AreRead domain_text problem_text plan_text task plan × Judges (Ok verdict) task rules plan))

-- what is answered, as a reply; nothing is said of a fault of memory, which is no right answer
abbrev pub said_of : Answer → Option Said
said_of (DomainRefused fault) = pddl_said (role_word role.Domain) fault
said_of (ProblemRefused fault) = pddl_said (role_word role.Problem) fault
said_of (GroundRefused fault) = ground_said fault
said_of (PlanRefused line kind) = line_said line kind
said_of (WideAt happening) = Some (wide_said happening)
said_of (Decided verdict) = Some (verdict_said verdict)

-- the reply is a right answer to the texts
pub record Validates (rules : Rules) (domain_text problem_text plan_text : List ℕ) (said : Said) : Type 0 where
  pub answer : Answer
  pub right : IsAnswer rules domain_text problem_text plan_text answer
  pub told : said_of answer ≡ Some said
