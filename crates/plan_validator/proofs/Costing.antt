-- A defined whole course defines the course of the cost, but for what the cost itself reckons.
use Rattle.std.proofs.Common.{◌≡◌, sym, ℕ, List, [], ◌∷◌, ◌++◌, map, inl, inr}
use Rattle.std.specs.Prelude.{None, Ok, Err}
use Rattle.rational.specs.Rational.{ℚ}
use Rattle.exact_lin.specs.Reckoning.{wide_limit}
use Rattle.exact_lin.specs.Reckonings.{Reckoning, IsDefined, AllDefined, IsFirstUndefined}
use Rattle.basics.proofs.Lists.{each_append}
use Rattle.task_types.specs.declared.parts.Rules.{Rules}
use Rattle.task_types.specs.declared.parts.TaskParts.{TaskParts}
use Rattle.task_types.specs.Sets.{numbers}
use Rattle.task_types.specs.Plan.{Plan}
use Rattle.task_types.specs.Course.{count}
use Rattle.task_types.specs.Reckoned.{whole_at, whole_course, effects_at, move_at, course_before, cost_reckoned}
use Rattle.metric_cost.specs.Answers.{Costs}
use Rattle.timed_meaning.specs.declared.faults.MeaningFault.{MeaningFault}
use Rattle.timed_meaning.specs.declared.faults.MeaningFault.TheVariants.{Wide, Memory}
use Rattle.timed_meaning.specs.Answers.{Defined}
use Rattle.timed_meaning.proofs.Courses.{Course}
use Rattle.plan_validator.specs.declared.verdicts.Verdict.TheVariants as verdict
use Rattle.plan_validator.specs.Judged.{JudgesPlan}
use Rattle.plan_validator.specs.Passing.{course_to, goal_reckoned}
use Rattle.plan_validator.specs.Verdicts.{Validates}
use Rattle.plan_validator.proofs.Courses.{defined-of}
use Rattle.plan_validator.proofs.Wholes.{effects_out, move_out}

-- where the parts of one course are defined those of another are
weaker-course : (g h : ℕ → List Reckoning) → ((k : ℕ) → Defined (g k) → Defined (h k)) → (ks : List ℕ) → AllDefined wide_limit (map (λ k. (k, g k)) ks) → AllDefined wide_limit (map (λ k. (k, h k)) ks)
weaker-course g h f [] d = tt
weaker-course g h f (k ∷ ks) d = (f k d.0, weaker-course g h f ks d.1)

-- the first place that isn't defined is the last one where those before it are
first-last : (ps : Course) (k : ℕ) (rs : List Reckoning) (j : ℕ) → AllDefined wide_limit ps → IsFirstUndefined wide_limit (ps ++ (k, rs) ∷ []) j → (¬ Defined rs) × (j ≡ k)
first-last [] k rs j h (inl u) = (u.0, sym u.1)
first-last [] k rs j h (inr u) = absurd u.1
first-last (p ∷ ps) k rs j h (inl u) = absurd (u.0 h.0)
first-last (p ∷ ps) k rs j h (inr u) = first-last ps k rs j h.1 u.1

module _ (task : TaskParts) (rules : Rules) (plan : Plan) where
  states-defined : AllDefined wide_limit (whole_course task rules plan) → AllDefined wide_limit (course_before task plan (count task plan))
  states-defined d = weaker-course (whole_at task rules plan) (λ k. effects_at task plan k ++ move_at task plan k)
      (λ k h. each_append (IsDefined wide_limit) (effects_at task plan k) (move_at task plan k) (effects_out task rules plan k h) (move_out task rules plan k h)) (numbers (count task plan))
      (defined-of (course_to task rules plan (count task plan)) (count task plan) (goal_reckoned task plan) d).0

  pub validates-fault : (f : MeaningFault) → JudgesPlan (Err f) task rules plan → Validates (Err f) task rules plan
  validates-fault (Wide k) h = inl h
  validates-fault Memory h = tt

  pub validates-cost : (c : ℚ) → JudgesPlan (Ok None) task rules plan → Costs (Ok c) task plan → Validates (Ok (verdict.Valid c)) task rules plan
  validates-cost c j h = (j.0, j.1, (defined-of (course_before task plan (count task plan)) (count task plan) (cost_reckoned task plan) h.0).1, h.1)

  pub validates-wide : (f : MeaningFault) → JudgesPlan (Ok None) task rules plan → Costs (Err f) task plan → Validates (Err f) task rules plan
  validates-wide (Wide k) j h = let u = first-last (course_before task plan (count task plan)) (count task plan) (cost_reckoned task plan) k (states-defined j.0) h in inr (j.0, j.1, u.0, u.1)
  validates-wide Memory j h = tt
