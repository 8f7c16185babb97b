-- Private: the steps of a validation, one after another.
use Rattle.std.specs.Prelude.{◌≡◌, ◌⊎◌, ◌≤◌, ℕ, List, length, Option, Some, None, Result, Ok, Err}
use Rattle.outside.specs.declared.desk.TheConstants.{LONGEST_FILE}
use Rattle.pddl_terms.specs.declared.faults.PddlFault.{PddlFault}
use Rattle.pddl_terms.specs.declared.files.Domain.{Domain}
use Rattle.pddl_terms.specs.declared.files.Problem.{Problem}
use Rattle.pddl_domain.specs.Readings.{IsDomain, IsDomainFault}
use Rattle.pddl_problem.specs.Readings.{IsProblem, IsProblemFault}
use Rattle.grounder.specs.declared.faults.GroundFault.{GroundFault}
use Rattle.grounder.specs.Answer.{ground_answer}
use Rattle.task_types.specs.declared.parts.Rules.{Rules}
use Rattle.task_types.specs.declared.parts.TaskParts.{TaskParts}
use Rattle.task_types.specs.Plan.{Plan}
use Rattle.plan_files.specs.declared.faults.LineFault.{LineFault}
use Rattle.plan_files.specs.declared.faults.LineFault.TheVariants.{At, Memory}
use Rattle.plan_files.specs.declared.faults.LineKind.{LineKind}
use Rattle.plan_files.specs.PlanFiles.{IsPlanFile, IsRefusedAt}
use Rattle.plan_validator.specs.declared.verdicts.Verdict.{Verdict}
use Rattle.plan_validator.specs.Verdicts.{IsWideAt, Validates as Judges}
use Rattle.planner_core.specs.Answers.{Answer, DomainRefused, ProblemRefused, GroundRefused, PlanRefused, WideAt, Decided, said_of}
use Rattle.planner_core.specs.Replies.{Said}
use Rattle.planner_core.specs.Validations.{line_said}

-- ---- what each step makes, or what its fault is

abbrev pub ReadDomain : List ℕ → Result Domain PddlFault → Type 0
ReadDomain text (Ok domain) = IsDomain text domain
ReadDomain text (Err fault) = IsDomainFault text fault

abbrev pub ReadProblem : Domain → List ℕ → Result Problem PddlFault → Type 0
ReadProblem domain text (Ok problem) = IsProblem domain text problem
ReadProblem domain text (Err fault) = IsProblemFault domain text fault

abbrev pub Ground : Domain → Problem → Result TaskParts GroundFault → Type 0
Ground domain problem answer = ground_answer domain problem ≡ answer

abbrev pub ReadPlan : TaskParts → List ℕ → Result Plan (ℕ × LineKind) → Type 0
ReadPlan task text (Ok plan) = IsPlanFile task text plan
ReadPlan task text (Err at) = IsRefusedAt task text at

abbrev pub Judge : Rules → TaskParts → Plan → Result Verdict ℕ → Type 0
Judge rules task plan (Ok verdict) = Judges (Ok verdict) task rules plan
Judge rules task plan (Err happening) = IsWideAt task rules plan happening

-- the domain stands in some text that is no longer than the longest file
pub record IsReadDomain (domain : Domain) : Type 0 where
  pub text : List ℕ
  pub short : length text ≤ LONGEST_FILE
  pub read : IsDomain text domain

-- ---- the answers step by step

-- The end of a work is the fault of its first step, as it is told, or that of the rest with what the step makes.
abbrev pub After : {A F B : Type 0} → (Result A F → Type 0) → (F → B) → (A → B → Type 0) → B → Type 0
After {A = A} {F = F} {B = B} Step told rest b =
    ((f : F) × (Step (Err f) × (b ≡ told f))) ⊎ ((x : A) × (Step (Ok x) × rest x b))

abbrev pub IsDecided : Verdict → Answer → Type 0
IsDecided verdict answer = answer ≡ Decided verdict

abbrev pub OfPlan : Rules → TaskParts → Plan → Answer → Type 0
OfPlan rules task plan = After (Judge rules task plan) WideAt IsDecided

abbrev pub refused_plan : ℕ × LineKind → Answer
refused_plan at = PlanRefused at.0 at.1

abbrev pub OfTask : Rules → (plan_text : List ℕ) → TaskParts → Answer → Type 0
OfTask rules plan_text task = After (ReadPlan task plan_text) refused_plan (OfPlan rules task)

abbrev pub OfFiles : Rules → (plan_text : List ℕ) → Domain → Problem → Answer → Type 0
OfFiles rules plan_text domain problem = After (Ground domain problem) GroundRefused (OfTask rules plan_text)

abbrev pub OfDomain : Rules → (problem_text plan_text : List ℕ) → Domain → Answer → Type 0
OfDomain rules problem_text plan_text domain =
    After (ReadProblem domain problem_text) ProblemRefused (OfFiles rules plan_text domain)

abbrev pub OfTexts : Rules → (domain_text problem_text plan_text : List ℕ) → Answer → Type 0
OfTexts rules domain_text problem_text plan_text =
    After (ReadDomain domain_text) DomainRefused (OfDomain rules problem_text plan_text)

-- The reply tells some such answer.
pub record Tells (P : Answer → Type 0) (said : Said) : Type 0 where
  pub answer : Answer
  pub right : P answer
  pub told : said_of answer ≡ Some said

-- what is said of a plan file that isn't read
abbrev pub fault_said : LineFault → Option Said
fault_said (At line kind) = line_said line kind
fault_said Memory = None
