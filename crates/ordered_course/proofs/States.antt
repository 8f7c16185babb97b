-- What a part of a list carries, as the states of a plan of which the list tells.
use Rattle.std.proofs.Common.{◌≡◌, sym, ap, ◌∙◌, ℕ, true, false, List, ◌++◌}
use Rattle.std.specs.Prelude.{not}
use Rattle.std.specs.List.{AllByRecursion}
use Rattle.rational.specs.Rational.{ℚ, ◌<ℚ◌, ◌≤ℚ◌}
use Rattle.basics.proofs.Bools.{not_true}
use Rattle.task_types.specs.declared.parts.TaskParts.{TaskParts}
use Rattle.task_types.specs.Tests.{◌<?◌, ◌≤?◌}
use Rattle.task_types.specs.Plan.{Plan, Step, snap_of}
use Rattle.task_types.specs.Course.{before, after}
use Rattle.task_types.proofs.Comparisons.{lt_out, le_out, not_lt_out, later_out}
use Rattle.task_types.proofs.Everyone.{all_map}
use Rattle.ordering.specs.Along.{at_time, carried, changes_fact}
use Rattle.ordering.specs.Laws.{Tells}
use Rattle.ordering.proofs.ByTime.{before-by_time, after-by_time, may_cross}
use Rattle.ordered_course.specs.Quiet.{IsQuiet}
use Rattle.ordered_course.proofs.Cut.{cut-fluent, cut-fact}
use Rattle.ordered_course.proofs.Watching.{may_cross_up_to, agree_left}

module _ (task : TaskParts) (plan : Plan) (xs ys : List Step) (t : ℚ) (f : ℕ) (tells : Tells task plan (xs ++ ys)) where
  -- what is asked of steps by their times, as it is asked by a test
  late : (P : Step → Type 0) → AllByRecursion (λ x. t ≤ℚ x.time → P x) xs → AllByRecursion (λ x. not (x.time <? t) ≡ true → P x) xs
  late P h = all_map (λ x. t ≤ℚ x.time → P x) (λ x. not (x.time <? t) ≡ true → P x) xs (λ x g e. g (not_lt_out x.time t (not_true (x.time <? t) e))) h

  early : (P : Step → Type 0) → AllByRecursion (λ y. y.time <ℚ t → P y) ys → AllByRecursion (λ y. (y.time <? t) ≡ true → P y) ys
  early P h = all_map (λ y. y.time <ℚ t → P y) (λ y. (y.time <? t) ≡ true → P y) ys (λ y g e. g (lt_out y.time t e)) h

  later : (P : Step → Type 0) → AllByRecursion (λ x. t <ℚ x.time → P x) xs → AllByRecursion (λ x. not (x.time ≤? t) ≡ true → P x) xs
  later P h = all_map (λ x. t <ℚ x.time → P x) (λ x. not (x.time ≤? t) ≡ true → P x) xs (λ x g e. g (later_out x.time t (not_true (x.time ≤? t) e))) h

  soon : (P : Step → Type 0) → AllByRecursion (λ y. y.time ≤ℚ t → P y) ys → AllByRecursion (λ y. (y.time ≤? t) ≡ true → P y) ys
  soon P h = all_map (λ y. y.time ≤ℚ t → P y) (λ y. (y.time ≤? t) ≡ true → P y) ys (λ y g e. g (le_out y.time t e)) h

  pub fluent_before : AllByRecursion (λ x. t ≤ℚ x.time → IsQuiet task t f x) xs → AllByRecursion (λ y. y.time <ℚ t → IsQuiet task t f y) ys → (at_time (carried task xs) t).fluents f ≡ (before task plan t).fluents f
  fluent_before h k = cut-fluent task (λ s. s.time <? t) xs ys (may_cross task t xs (agree_left task xs ys tells.agree)) t f (late (IsQuiet task t f) h) (early (IsQuiet task t f) k) ∙ sym (ap (λ s. s.fluents f) (before-by_time task plan (xs ++ ys) tells t))

  pub fluent_after : AllByRecursion (λ x. t <ℚ x.time → IsQuiet task t f x) xs → AllByRecursion (λ y. y.time ≤ℚ t → IsQuiet task t f y) ys → (at_time (carried task xs) t).fluents f ≡ (after task plan t).fluents f
  fluent_after h k = cut-fluent task (λ s. s.time ≤? t) xs ys (may_cross_up_to task t xs (agree_left task xs ys tells.agree)) t f (later (IsQuiet task t f) h) (soon (IsQuiet task t f) k) ∙ sym (ap (λ s. s.fluents f) (after-by_time task plan (xs ++ ys) tells t))

  abbrev LeavesFact : Step → Type 0
  LeavesFact x = changes_fact (snap_of task x.snap) f ≡ false

  pub fact_before : AllByRecursion (λ x. t ≤ℚ x.time → LeavesFact x) xs → AllByRecursion (λ y. y.time <ℚ t → LeavesFact y) ys → (carried task xs).facts f ≡ (before task plan t).facts f
  fact_before h k = cut-fact task (λ s. s.time <? t) xs ys (may_cross task t xs (agree_left task xs ys tells.agree)) f (late LeavesFact h) (early LeavesFact k) ∙ sym (ap (λ s. s.facts f) (before-by_time task plan (xs ++ ys) tells t))

  pub fact_after : AllByRecursion (λ x. t <ℚ x.time → LeavesFact x) xs → AllByRecursion (λ y. y.time ≤ℚ t → LeavesFact y) ys → (carried task xs).facts f ≡ (after task plan t).facts f
  fact_after h k = cut-fact task (λ s. s.time ≤? t) xs ys (may_cross_up_to task t xs (agree_left task xs ys tells.agree)) f (later LeavesFact h) (soon LeavesFact k) ∙ sym (ap (λ s. s.facts f) (after-by_time task plan (xs ++ ys) tells t))
