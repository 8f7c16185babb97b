-- Believed: times that agree with an ordering, its timed plan, and the plans that extend a list of steps.
use Rattle.std.specs.Prelude.{ℕ, ◌+◌, ◌≡◌, Bool, true, ◌&&◌, ◌==◌, if◌then◌else◌, IsTrue, List, [], ◌∷◌, ◌++◌, map, length, take, slice_index_or, Some, None, option_to_list, IsPermutation}
use Rattle.std.specs.List.{list_any, list_all, flat_map, zip}
use Rattle.rational.specs.Rational.{ℚ, zeroℚ, ◌+ℚ◌, ◌-ℚ◌}
use Rattle.task_types.specs.declared.actions.SnapKind.{SnapKind}
use Rattle.task_types.specs.declared.actions.SnapKind.TheVariants.{Start, End, Instant, Timed}
use Rattle.task_types.specs.declared.orderings.Link.{Link}
use Rattle.task_types.specs.declared.orderings.Link.TheVariants.{Free, Weak, Apart}
use Rattle.task_types.specs.declared.parts.Rules.{Rules}
use Rattle.task_types.specs.declared.parts.TaskParts.{TaskParts}
use Rattle.task_types.specs.declared.plans.PlanLine.{PlanLine}
use Rattle.task_types.specs.Tests.{◌≤?◌, ◌=?◌}
use Rattle.task_types.specs.Sets.{is_in}
use Rattle.task_types.specs.Plan.{Plan, action_of, snap_of}
use Rattle.task_types.specs.Valid.{Valid}
use Rattle.task_types.specs.Touch.{is_timed}
use Rattle.task_types.specs.Order.{Order, link, IsClosedOrdering}

-- A link holds between an earlier and a later step of the list where the later is no earlier in time, or later by
-- epsilon, as the link asks.
abbrev pub link_holds : Rules → Link → ℚ → ℚ → Bool
link_holds rules Free t u = true
link_holds rules Weak t u = t ≤? u
link_holds rules Apart t u = t +ℚ rules.epsilon ≤? u

-- A timed step has its moment, and a plan step is from 0 to the horizon.
abbrev pub is_placed : TaskParts → Rules → ℕ → ℚ → Bool
is_placed task rules s t = if is_timed (snap_of task s).kind then list_any (λ m. (m.1 == s) && (m.0 =? t)) task.timed else ((zeroℚ ≤? t) && (t ≤? rules.horizon))

abbrev pub time_at : List ℚ → ℕ → ℚ
time_at times k = slice_index_or times k zeroℚ

-- the link of each step with each later one holds
abbrev pub are_linked : TaskParts → Rules → List (ℕ × ℚ) → Bool
are_linked task rules [] = true
are_linked task rules (p ∷ ps) = list_all (λ q. link_holds rules (link task (snap_of task p.0) (snap_of task q.0)) p.1 q.1) ps && are_linked task rules ps

-- Times, one for each step, agree with an ordering where each link and each extra pair holds and each step has its
-- place in time.
unfoldable pub agree : TaskParts → Rules → Order → List ℚ → Bool
agree task rules o times = (length times == length o.steps)
    && are_linked task rules (zip o.steps times)
    && list_all (λ e. link_holds rules Apart (time_at times e.0) (time_at times e.1)) o.extra
    && list_all (λ p. is_placed task rules p.0 p.1) (zip o.steps times)

-- the time of the first end of an action
abbrev pub end_time : TaskParts → ℕ → List (ℕ × ℚ) → ℚ
end_time task a [] = zeroℚ
end_time task a (p ∷ ps) = if is_in p.0 (option_to_list (action_of task a).end) then p.1 else end_time task a ps

-- the line that a step begins, given the steps after it
abbrev pub begun : TaskParts → SnapKind → ℕ → ℚ → List (ℕ × ℚ) → List PlanLine
begun task Start a t later = record { action = a; at = t; duration = Some (end_time task a later -ℚ t); line = 0 } ∷ []
begun task Instant a t later = record { action = a; at = t; duration = None; line = 0 } ∷ []
begun task End a t later = []
begun task Timed a t later = []

abbrev pub begun_lines : TaskParts → List (ℕ × ℚ) → Plan
begun_lines task [] = []
begun_lines task (p ∷ ps) = flat_map (λ a. begun task (snap_of task p.0).kind a p.1 ps) (option_to_list (snap_of task p.0).action) ++ begun_lines task ps

abbrev pub numbered : ℕ → Plan → Plan
numbered n [] = []
numbered n (l ∷ ls) = record l { line = n } ∷ numbered (n + 1) ls

-- The timed plan of an ordering and its times has one line for each start, up to the next end of its action, and for
-- each instantaneous action, numbered from 1 in the order of the list.
unfoldable pub plan_of : TaskParts → Order → List ℚ → Plan
plan_of task o times = numbered 1 (begun_lines task (zip o.steps times))

-- Valid times of a closed ordering agree with it, and their timed plan is valid.
pub record ValidTimes (task : TaskParts) (rules : Rules) (o : Order) (times : List ℚ) : Type 0 where
  pub ordering : IsClosedOrdering task o
  pub agreeing : IsTrue (agree task rules o times)
  pub valid : Valid task rules (plan_of task o times)

-- what a line says, but for its number in a text
abbrev pub unnumbered : PlanLine → PlanLine
unnumbered l = record l { line = 0 }

-- Two plans have the same lines where one is the other in some order, whatever the numbers of the lines are.
abbrev pub SameLines : Plan → Plan → Type 0
SameLines plan other = IsPermutation (map unnumbered plan) (map unnumbered other)

-- A plan extends a list of steps where it is the timed plan of a closed ordering without extra pairs that begins with
-- that list, and of times that agree with it.
pub record Extends (task : TaskParts) (rules : Rules) (plan : Plan) (list : List ℕ) : Type 0 where
  pub order : Order
  pub times : List ℚ
  pub ordering : IsClosedOrdering task order
  pub no_pairs : order.extra ≡ []
  pub agreeing : IsTrue (agree task rules order times)
  pub same : SameLines plan (plan_of task order times)
  pub begins : take (length list) order.steps ≡ list

-- A plan is separated where it is the timed plan of some closed ordering without extra pairs and of times that agree
-- with it.
abbrev pub Separated : TaskParts → Rules → Plan → Type 0
Separated task rules plan = Extends task rules plan []
