-- Believed: what the course along the list of an ordering tells of its timed plan.
use Rattle.std.specs.Prelude.{ℕ, ◌≡◌, Bool, false, IsTrue, List, ◌++◌, Some}
use Rattle.std.specs.List.{AllByRecursion}
use Rattle.rational.specs.Rational.{ℚ, zeroℚ, ◌<ℚ◌, ◌≤ℚ◌}
use Rattle.exact_lin.specs.Forms.{LinearForm}
use Rattle.task_types.specs.declared.constraints.TrailKind.{TrailKind}
use Rattle.task_types.specs.declared.constraints.TrailKind.TheVariants.{Within}
use Rattle.task_types.specs.declared.orderings.Blocked.{Blocked}
use Rattle.task_types.specs.declared.parts.Rules.{Rules}
use Rattle.task_types.specs.declared.parts.TaskParts.{TaskParts}
use Rattle.task_types.specs.State.{value}
use Rattle.task_types.specs.Plan.{Plan, Step, snap_of}
use Rattle.task_types.specs.Course.{before, after}
use Rattle.task_types.specs.Order.{Order, IsClosedOrdering}
use Rattle.task_types.specs.Agreement.{agree, plan_of, ValidTimes}
use Rattle.task_types.specs.Blocking.{blocked}
use Rattle.task_types.specs.Valid.{ArePositive}
use Rattle.task_types.specs.WellMade.{IsWellMade}
use Rattle.task_types.specs.Laws.{kept_along}
use Rattle.ordering.specs.Along.{at_time, carried, changes_fact}
use Rattle.ordering.specs.Laws.{Tells}
use Rattle.ordered_course.specs.Lines.{steps_of}
use Rattle.ordered_course.specs.Quiet.{IsQuiet, Leaves, LeavesOr}
use Rattle.ordered_course.specs.Walks.{Walks}

-- The steps of a closed ordering, at times that agree with it, tell of its timed plan.
abbrev pub AgreeingTimesTell : Type 0
AgreeingTimesTell = (task : TaskParts) (rules : Rules) (o : Order) (times : List ℚ) → IsWellMade task → ArePositive rules → IsClosedOrdering task o → IsTrue (agree task rules o times) → Tells task (plan_of task o times) (steps_of task o times)

-- A list that tells of a plan is cut in two. Where the steps of the first part that come at an instant or later, and
-- those of the second that come before it, are quiet about a fluent or leave a fact, the first part carries what that
-- fluent or fact is in the state before the instant; and likewise after it.
pub record PartsTellStates : Type 0 where
  pub fluent_before : (task : TaskParts) (plan : Plan) (xs ys : List Step) (t : ℚ) (f : ℕ) → Tells task plan (xs ++ ys) → AllByRecursion (λ x. t ≤ℚ x.time → IsQuiet task t f x) xs → AllByRecursion (λ y. y.time <ℚ t → IsQuiet task t f y) ys
      → (at_time (carried task xs) t).fluents f ≡ (before task plan t).fluents f
  pub fluent_after : (task : TaskParts) (plan : Plan) (xs ys : List Step) (t : ℚ) (f : ℕ) → Tells task plan (xs ++ ys) → AllByRecursion (λ x. t <ℚ x.time → IsQuiet task t f x) xs → AllByRecursion (λ y. y.time ≤ℚ t → IsQuiet task t f y) ys
      → (at_time (carried task xs) t).fluents f ≡ (after task plan t).fluents f
  pub fact_before : (task : TaskParts) (plan : Plan) (xs ys : List Step) (t : ℚ) (f : ℕ) → Tells task plan (xs ++ ys) → AllByRecursion (λ x. t ≤ℚ x.time → changes_fact (snap_of task x.snap) f ≡ false) xs → AllByRecursion (λ y. y.time <ℚ t → changes_fact (snap_of task y.snap) f ≡ false) ys
      → (carried task xs).facts f ≡ (before task plan t).facts f
  pub fact_after : (task : TaskParts) (plan : Plan) (xs ys : List Step) (t : ℚ) (f : ℕ) → Tells task plan (xs ++ ys) → AllByRecursion (λ x. t <ℚ x.time → changes_fact (snap_of task x.snap) f ≡ false) xs → AllByRecursion (λ y. y.time ≤ℚ t → changes_fact (snap_of task y.snap) f ≡ false) ys
      → (carried task xs).facts f ≡ (after task plan t).facts f

-- A list is cut after a step that comes at `from`, and again before a step that comes at `to`. No step between changes
-- the form's fluents; steps of the first part that do come no later than `from`, and those of the last part no earlier
-- than `to`. The form is at least 0 after the one step, and before the other.
pub record IsBetween (task : TaskParts) (plan : Plan) (form : LinearForm) (xs mid ys : List Step) (from to : ℚ) : Type 0 where
  pub tells : Tells task plan ((xs ++ mid) ++ ys)
  pub left : AllByRecursion (Leaves task form) mid
  pub first : AllByRecursion (LeavesOr task form (λ u. u ≤ℚ from)) xs
  pub second : AllByRecursion (LeavesOr task form (λ u. to ≤ℚ u)) ys
  pub here : zeroℚ ≤ℚ value form (at_time (carried task xs) from).fluents
  pub there : zeroℚ ≤ℚ value form (at_time (carried task (xs ++ mid)) to).fluents

-- Then it is so in the states before and after every instant between the two.
pub record HeldBetween : Type 0 where
  pub before_each : (task : TaskParts) (plan : Plan) (form : LinearForm) (xs mid ys : List Step) (from to t : ℚ) → IsBetween task plan form xs mid ys from to → from <ℚ t → t ≤ℚ to → zeroℚ ≤ℚ value form (before task plan t).fluents
  pub after_each : (task : TaskParts) (plan : Plan) (form : LinearForm) (xs mid ys : List Step) (from to t : ℚ) → IsBetween task plan form xs mid ys from to → from ≤ℚ t → t <ℚ to → zeroℚ ≤ℚ value form (after task plan t).fluents

-- Two walks through the same states keep the same constraints of each kind but `within`, however long they linger.
abbrev pub WalksAreAlike : Type 0
WalksAreAlike = (a b : ℕ → Bool) (kind : TrailKind) (soon late : ℕ → Bool) (ks ls : List ℕ) (n i : ℕ) → (kind ≡ Within → ⊥) → Walks n i ks → Walks n i ls → kept_along kind a b soon ks ≡ kept_along kind a b late ls

-- A blocked ordering has no valid times: what fails along its list fails in every timed plan of it.
abbrev pub BlockedIsSound : Type 0
BlockedIsSound = (task : TaskParts) (rules : Rules) (o : Order) (times : List ℚ) (b : Blocked) → IsWellMade task → ArePositive rules → blocked task o.steps ≡ Some b → ValidTimes task rules o times → ⊥
