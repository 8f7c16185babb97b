-- Three texts have one right answer at most.
use Rattle.std.proofs.Common.{◌≡◌, ℕ, List, sym, ◌∙◌, ap, Result, Ok, Err}
use Rattle.basics.proofs.Duties.{AllMet-no_first, first_unmet-one}
use Rattle.pddl_terms.specs.declared.files.Domain.{Domain}
use Rattle.pddl_terms.specs.declared.files.Problem.{Problem}
use Rattle.pddl_domain.specs.Domains.{wrong_domain, domain_told}
use Rattle.pddl_domain.specs.Readings.{domain_refusal}
use Rattle.pddl_domain.proofs.Joining.{one_tree, one_fault, no_fault}
use Rattle.pddl_problem.specs.Problems.{wrong_problem, problem_told}
use Rattle.pddl_problem.specs.Readings.{problem_refusal}
use Rattle.grounder.specs.declared.faults.GroundFault.{GroundFault}
use Rattle.task_types.specs.declared.parts.Rules.{Rules}
use Rattle.task_types.specs.declared.parts.TaskParts.{TaskParts}
use Rattle.task_types.specs.Plan.{Plan}
use Rattle.timed_meaning.specs.declared.faults.MeaningFault.{MeaningFault}
use Rattle.timed_meaning.specs.declared.faults.MeaningFault.TheVariants.{Wide, Memory}
use Rattle.plan_files.specs.Lines.{written_lines}
use Rattle.plan_files.specs.PlanFiles.{duties_from}
use Rattle.plan_files.proofs.LineDuties.{plans-one}
use Rattle.plan_validator.specs.declared.verdicts.Verdict.{Verdict}
use Rattle.plan_validator.proofs.OneAnswer.{one_answer}
use Rattle.planner_core.specs.Answers.{DomainRefused, ProblemRefused, GroundRefused, WideAt, IsAnswer}
use Rattle.planner_core.specs.Steps.{ReadDomain, ReadProblem, Ground, ReadPlan, Judge, IsDecided, OfPlan, refused_plan, OfTask, OfFiles, OfDomain, OfTexts}
use Rattle.planner_core.proofs.Stages.{IsFunctional, AreOne, after_one}
use Rattle.planner_core.proofs.Steps.{to_steps}

-- ---- each of them comes to one thing

domain_functional : (text : List ℕ) → IsFunctional (ReadDomain text)
domain_functional text = record {
  made = one_tree wrong_domain domain_told domain_refusal text;
  fault = one_fault wrong_domain domain_told domain_refusal text;
  apart = no_fault wrong_domain domain_told domain_refusal text;
}

problem_functional : (d : Domain) (text : List ℕ) → IsFunctional (ReadProblem d text)
problem_functional d text = record {
  made = one_tree wrong_problem problem_told (problem_refusal d) text;
  fault = one_fault wrong_problem problem_told (problem_refusal d) text;
  apart = no_fault wrong_problem problem_told (problem_refusal d) text;
}

task_in : TaskParts → Result TaskParts GroundFault → TaskParts
task_in other (Ok task) = task
task_in other (Err f) = other

fault_in : GroundFault → Result TaskParts GroundFault → GroundFault
fault_in other (Ok task) = other
fault_in other (Err f) = f

ground_functional : (d : Domain) (p : Problem) → IsFunctional (Ground d p)
unfolding task_in fault_in
ground_functional d p = record {
  made = λ x y h k. ap (task_in x) (sym h ∙ k);
  fault = λ f g h k. ap (fault_in f) (sym h ∙ k);
  apart = λ x f h k. let e : ◌≡◌ {A = Result TaskParts GroundFault} (Ok x) (Err f) = sym h ∙ k in cc;
}

plan_functional : (task : TaskParts) (text : List ℕ) → IsFunctional (ReadPlan task text)
plan_functional task text = record {
  made = λ p q s t. plans-one task (written_lines text) p q s.tells t.tells;
  fault = first_unmet-one (duties_from task 0 (written_lines text));
  apart = λ p f s. AllMet-no_first (duties_from task 0 (written_lines text)) f s.met;
}

verdict_in : Verdict → Result Verdict MeaningFault → Verdict
verdict_in other (Ok v) = v
verdict_in other (Err f) = other

happening_in : ℕ → Result Verdict MeaningFault → ℕ
happening_in other (Ok v) = other
happening_in other (Err (Wide k)) = k
happening_in other (Err Memory) = other

judge_functional : (rules : Rules) (task : TaskParts) (plan : Plan) → IsFunctional (Judge rules task plan)
unfolding verdict_in happening_in
judge_functional rules task plan = record {
  made = λ v w h k. ap (verdict_in v) (one_answer task rules plan (Ok v) (Ok w) tt tt h k);
  fault = λ j k h u. ap (happening_in j) (one_answer task rules plan (Err (Wide j)) (Err (Wide k)) tt tt h u);
  apart = λ v k h u. let e : ◌≡◌ {A = Result Verdict MeaningFault} (Ok v) (Err (Wide k)) = one_answer task rules plan (Ok v) (Err (Wide k)) tt tt h u in cc;
}

-- ---- step by step

verdicts_one : (v : Verdict) → AreOne (IsDecided v)
verdicts_one v a b h k = h ∙ sym k

module _ (rules : Rules) (domain problem text : List ℕ) where
  of_plan_one : (task : TaskParts) (plan : Plan) → AreOne (OfPlan rules task plan)
  of_plan_one task plan = after_one (Judge rules task plan) WideAt IsDecided (judge_functional rules task plan) verdicts_one

  of_task_one : (task : TaskParts) → AreOne (OfTask rules text task)
  of_task_one task = after_one (ReadPlan task text) refused_plan (OfPlan rules task) (plan_functional task text) (of_plan_one task)

  of_files_one : (d : Domain) (p : Problem) → AreOne (OfFiles rules text d p)
  of_files_one d p = after_one (Ground d p) GroundRefused (OfTask rules text) (ground_functional d p) of_task_one

  of_domain_one : (d : Domain) → AreOne (OfDomain rules problem text d)
  of_domain_one d = after_one (ReadProblem d problem) ProblemRefused (OfFiles rules text d) (problem_functional d problem) (of_files_one d)

  of_texts_one : AreOne (OfTexts rules domain problem text)
  of_texts_one = after_one (ReadDomain domain) DomainRefused (OfDomain rules problem text) (domain_functional domain) of_domain_one

  pub answer_one : AreOne (IsAnswer rules domain problem text)
  answer_one a b h k = of_texts_one a b (to_steps rules domain problem text a h) (to_steps rules domain problem text b k)
