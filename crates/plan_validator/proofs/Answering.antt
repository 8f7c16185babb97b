-- What the calls over a whole plan answer.
use Rattle.std.proofs.Common.{◌≡◌, sym, subst, ℕ}
use Rattle.std.specs.Prelude.{Option, Some, None, Ok, Err}
use Rattle.exact_lin.specs.Reckoning.{wide_limit}
use Rattle.exact_lin.specs.Reckonings.{AllDefined}
use Rattle.task_types.specs.declared.parts.Rules.{Rules}
use Rattle.task_types.specs.declared.parts.TaskParts.{TaskParts}
use Rattle.task_types.specs.declared.plans.Reason.{Reason}
use Rattle.task_types.specs.Plan.{Plan, IsFormed}
use Rattle.task_types.specs.Course.{count}
use Rattle.task_types.specs.Valid.{duties}
use Rattle.task_types.proofs.Duties.{valid-duties}
use Rattle.timed_meaning.specs.declared.faults.MeaningFault.{MeaningFault}
use Rattle.timed_meaning.specs.declared.faults.MeaningFault.TheVariants.{Wide, Memory}
use Rattle.timed_meaning.specs.Answers.{Defined}
use Rattle.timed_meaning.proofs.Courses.{all-put, stop-put, first-put}
use Rattle.plan_validator.specs.declared.watching.Watch.{Watch}
use Rattle.plan_validator.specs.Judged.{Judged, JudgesPlan}
use Rattle.plan_validator.specs.Passing.{course_to, Passes, Watches, goal_reckoned}

module _ (task : TaskParts) (rules : Rules) (plan : Plan) where
  pub watches-fault : (f : MeaningFault) (w : Watch) (last : ℕ) → Passes (Err f) task rules plan w last → Watches (Err f) task rules plan
  watches-fault (Wide k) w last h = h
  watches-fault Memory w last h = tt

  pub judges-fault : (f : MeaningFault) → Watches (Err f) task rules plan → JudgesPlan (Err f) task rules plan
  judges-fault (Wide k) h = first-put (course_to task rules plan (count task plan)) (count task plan) (goal_reckoned task plan) k h
  judges-fault Memory h = tt

  pub judges-goal : (k : ℕ) → k ≡ count task plan → AllDefined wide_limit (course_to task rules plan (count task plan)) → ¬ (Defined (goal_reckoned task plan)) → JudgesPlan (Err (Wide k)) task rules plan
  judges-goal k e d n = subst (λ (j : ℕ). JudgesPlan (Err (Wide j)) task rules plan) (sym e) (stop-put (course_to task rules plan (count task plan)) (count task plan) (goal_reckoned task plan) d n)

  pub judges-plan : (o : Option Reason) → IsFormed task plan → AllDefined wide_limit (course_to task rules plan (count task plan)) → Defined (goal_reckoned task plan) → Judged (duties task rules plan) o → JudgesPlan (Ok o) task rules plan
  judges-plan None f d g j = (all-put (course_to task rules plan (count task plan)) (count task plan) (goal_reckoned task plan) d g, (valid-duties task rules plan f).1 j)
  judges-plan (Some r) f d g j = (all-put (course_to task rules plan (count task plan)) (count task plan) (goal_reckoned task plan) d g, j)
