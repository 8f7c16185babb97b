-- Believed: laws that show the definitions to be the ones that are meant.
use Rattle.std.specs.Prelude.{ℕ, suc, ◌<◌, ◌≤◌, ◌≡◌, ◌⊎◌, ◌↔◌, Bool, true, false, not, ◌&&◌, ◌||◌, ◌==◌, if◌then◌else◌, IsTrue, List, [], ◌∷◌, map, length, slice_index, slice_get, Contains, Some, cond, option_and_then}
use Rattle.std.specs.List.{AllByRecursion, list_all, list_any, flat_map}
use Rattle.std.specs.Option.{option_map}
use Rattle.rational.specs.Rational.{ℚ, zeroℚ, ◌≤ℚ◌, ◌<ℚ◌}
use Rattle.task_types.specs.declared.actions.Snap.{Snap}
use Rattle.task_types.specs.declared.conditions.Condition.{Condition}
use Rattle.task_types.specs.declared.parts.Rules.{Rules}
use Rattle.task_types.specs.declared.parts.TaskParts.{TaskParts}
use Rattle.task_types.specs.declared.plans.Reason.{Reason}
use Rattle.task_types.specs.declared.constraints.Trail.{Trail}
use Rattle.task_types.specs.declared.formulas.FactTree.{FactTree}
use Rattle.task_types.specs.declared.constraints.TrailKind.{TrailKind}
use Rattle.task_types.specs.declared.constraints.TrailKind.TheVariants.{Always, Sometime, Within, AtMostOnce, SometimeAfter, SometimeBefore, AtEnd}
use Rattle.task_types.specs.Tests.{◌≤?◌, ◌⇒◌}
use Rattle.task_types.specs.State.{State, holds, tree_holds}
use Rattle.task_types.specs.Trace.{Trace, Moment, at, met, first_state, first_moment}
use Rattle.task_types.specs.Plan.{Plan, Step, IsFormed, snap_of, steps, step_count, happenings}
use Rattle.task_types.specs.Course.{count, time_of, state_before, state_after, before, after, steps_at, entries_of, effect_of, amount, increased, happen, rate, moved}
use Rattle.task_types.specs.Clash.{clash}
use Rattle.task_types.specs.Valid.{Valid, ArePositive, HoldsWithin, IsFirstReason}
use Rattle.task_types.specs.declared.orderings.Link.TheVariants.{Free, Weak, Apart}
use Rattle.task_types.specs.declared.tokens.Touch.{Touch}
use Rattle.task_types.specs.declared.tokens.Touch.TheVariants.{Look, Mark, Bend}
use Rattle.task_types.specs.Touch.{is_timed, touches_of}
use Rattle.task_types.specs.Order.{Order, IsClosedOrdering, plan_step_count, link, is_built, pair_link}
use Rattle.task_types.specs.Agreement.{SameLines, are_linked, agree, link_holds, is_placed, time_at, plan_of}
use Rattle.task_types.specs.Cost.{cost, late_value, piece_value}
use Rattle.task_types.specs.Reckoned.{amount_reckoned, assigned_value, rate_reckoned, move_of, late_reckoned, piece_reckoned, cost_reckoned}
use Rattle.exact_lin.specs.Reckonings.{Reckoning, outcome, sums}
use Rattle.task_types.specs.declared.conditions.Amount.{Amount}
use Rattle.task_types.specs.declared.costs.LateCost.{LateCost}
use Rattle.task_types.specs.declared.costs.Piece.{Piece}
use Rattle.task_types.specs.WellMade.{IsWellMade}

-- each number is below all later ones
abbrev pub Ascends : List ℚ → Type 0
Ascends [] = Unit {0}
Ascends (t ∷ ts) = AllByRecursion (λ u. t <ℚ u) ts × Ascends ts

-- A list has the times of some steps where it ascends and has each of their times and no other.
pub record HasTimes (ts times : List ℚ) : Type 0 where
  pub ascends : Ascends ts
  pub each : (x : ℚ) → Contains times x → Contains ts x
  pub no_other : (x : ℚ) → Contains ts x → Contains times x

-- The happenings of a plan are the one list that has the times of its steps.
pub record OneListOfHappenings : Type 0 where
  pub has_times : (task : TaskParts) (plan : Plan) → HasTimes (happenings task plan) (map (λ s. s.time) (steps task plan))
  pub one : (task : TaskParts) (plan : Plan) (ts : List ℚ) → HasTimes ts (map (λ s. s.time) (steps task plan)) → ts ≡ happenings task plan

-- Between two adjacent happenings a condition holds at every instant exactly where it holds at both ends.
abbrev pub SegmentsGoByTheirEnds : Type 0
SegmentsGoByTheirEnds = (task : TaskParts) (plan : Plan) (k : ℕ) (c : Condition) → suc k < count task plan → IsFormed task plan
    → HoldsWithin task plan c (time_of task plan k) (time_of task plan (suc k)) ↔ IsTrue (holds c (state_after task plan k)) × IsTrue (holds c (state_before task plan (suc k)))

-- At a happening the states before and after are those that have its number.
pub record StatesGoByNumber : Type 0 where
  pub before : (task : TaskParts) (plan : Plan) (k : ℕ) → k < count task plan → before task plan (time_of task plan k) ≡ state_before task plan k
  pub after : (task : TaskParts) (plan : Plan) (k : ℕ) → k < count task plan → after task plan (time_of task plan k) ≡ state_after task plan k

-- A formed plan is valid or has a first reason; no plan has both, or two first reasons.
pub record ValidOrOneReason : Type 0 where
  pub some : (task : TaskParts) (rules : Rules) (plan : Plan) → IsFormed task plan → Valid task rules plan ⊎ ((r : Reason) × IsFirstReason task rules plan r)
  pub not_both : (task : TaskParts) (rules : Rules) (plan : Plan) (r : Reason) → Valid task rules plan → ¬ IsFirstReason task rules plan r
  pub one : (task : TaskParts) (rules : Rules) (plan : Plan) (r s : Reason) → IsFirstReason task rules plan r → IsFirstReason task rules plan s → r ≡ s

-- Whether two steps clash, and how they are linked, doesn't depend on which is named first.
pub record BothWaysRound : Type 0 where
  pub clashes : (task : TaskParts) (x y : Snap) → clash task x y ≡ clash task y x
  pub links : (task : TaskParts) (x y : Snap) → link task x y ≡ link task y x

-- At no moment do two assignments to one fluent meet.
abbrev pub AssignsOnce : TaskParts → Plan → Type 0
AssignsOnce task plan = (t : ℚ) (f : ℕ) → length (flat_map (λ step. entries_of f (effect_of task step).assigns) (steps_at task plan t)) ≤ 1

-- The order of a plan's lines, and the numbers that they have in a text, are free: they change no state where no two
-- assignments to one fluent meet, which is so in a valid plan, and then neither validity nor cost.
pub record LinesInAnyOrder : Type 0 where
  pub states : (task : TaskParts) (plan other : Plan) (t : ℚ) → SameLines plan other → AssignsOnce task plan → (before task plan t ≡ before task other t) × (after task plan t ≡ after task other t)
  pub assigns_once : (task : TaskParts) (rules : Rules) (plan : Plan) → IsWellMade task → ArePositive rules → Valid task rules plan → AssignsOnce task plan
  pub valid : (task : TaskParts) (rules : Rules) (plan other : Plan) → IsWellMade task → ArePositive rules → SameLines plan other → Valid task rules plan → Valid task rules other
  pub costs : (task : TaskParts) (plan other : Plan) → SameLines plan other → AssignsOnce task plan → cost task plan ≡ cost task other

-- ---- trajectory constraints, said a second time by going along the states

-- a run of states in which a formula holds has begun: it ends, and the formula holds in no later state
abbrev pub none_later : {M : Type 0} → (M → Bool) → List M → Bool
none_later a [] = true
none_later a (m ∷ ms) = not (a m) && none_later a ms

abbrev pub run_ends : {M : Type 0} → (M → Bool) → List M → Bool
run_ends a [] = true
run_ends a (m ∷ ms) = if a m then run_ends a ms else none_later a ms

-- the states in which a formula holds are one unbroken run, or none
abbrev pub one_run : {M : Type 0} → (M → Bool) → List M → Bool
one_run a [] = true
one_run a (m ∷ ms) = if a m then run_ends a ms else one_run a ms

-- each state with a is answered by b there or later
abbrev pub are_answered : {M : Type 0} → (a b : M → Bool) → List M → Bool
are_answered a b [] = true
are_answered a b (m ∷ ms) = (a m ⇒ list_any b (m ∷ ms)) && are_answered a b ms

-- no state has a before one with b was seen
abbrev pub are_prepared : {M : Type 0} → Bool → (a b : M → Bool) → List M → Bool
are_prepared seen a b [] = true
are_prepared seen a b (m ∷ ms) = (a m ⇒ seen) && are_prepared (seen || b m) a b ms

-- the last state has a
abbrev pub ends_with : {M : Type 0} → (M → Bool) → List M → Bool
ends_with a [] = false
ends_with a (m ∷ []) = a m
ends_with a (m ∷ n ∷ ms) = ends_with a (n ∷ ms)

abbrev pub kept_along : {M : Type 0} → TrailKind → (a b soon : M → Bool) → List M → Bool
kept_along Always a b soon ms = list_all a ms
kept_along Sometime a b soon ms = list_any a ms
kept_along Within a b soon ms = list_any (λ m. a m && soon m) ms
kept_along AtMostOnce a b soon ms = one_run a ms
kept_along SometimeAfter a b soon ms = are_answered a b ms
kept_along SometimeBefore a b soon ms = are_prepared false a b ms
kept_along AtEnd a b soon ms = ends_with a ms

-- In no three states of a trace, in this order, does a formula hold, fail and hold.
abbrev pub NoGap : Trace → (Moment → Bool) → Type 0
NoGap xs a = (i j k : ℕ) → i ≤ j → j ≤ k → IsTrue (at xs i a) → IsTrue (at xs j (λ m. not (a m))) → IsTrue (at xs k a) → ⊥

-- Each constraint is met exactly where it is kept by one pass along the states, and at most once says that there is no
-- gap.
pub record ConstraintsAlongTheTrace : Type 0 where
  pub along : (c : Trail) (xs : Trace) → met c xs ≡ kept_along c.kind (λ m. tree_holds c.first m.facts) (λ m. tree_holds c.second m.facts) (λ m. m.time ≤? c.moment) xs
  pub no_gap : (c : Trail) (xs : Trace) → c.kind ≡ AtMostOnce → IsTrue (met c xs) ↔ NoGap xs (λ m. tree_holds c.first m.facts)

-- The first moment of a formula is the time of its first state, where there is one.
abbrev pub FirstStatesHaveTheFirstMoments : Type 0
FirstStatesHaveTheFirstMoments = (formula : FactTree) (xs : Trace)
    → first_moment formula xs ≡ option_and_then (λ k. option_map (λ m. m.time) (slice_get xs k)) (first_state formula xs)

-- ---- what is reckoned is what is meant

-- what the last of some reckonings gives; the number given where there is none
abbrev pub ends_at : ℚ → List Reckoning → ℚ
ends_at q [] = q
ends_at q (r ∷ rs) = ends_at (outcome r) rs

-- The reckonings of an amount, of a fluent's effects at a happening, of its move, of a time cost and of the cost end at
-- the exact value that is meant; so where all of them are defined, that value is what was reckoned.
pub record ReckoningsEndAtTheValue : Type 0 where
  pub amounts : (step : Step) (s : State) (a : Amount) → ends_at zeroℚ (amount_reckoned step s a) ≡ amount step s a
  pub effects : (task : TaskParts) (here : List Step) (s : State) (f : ℕ) → ends_at (assigned_value task here s f) (sums (assigned_value task here s f) (increased task here s f)) ≡ (happen task here s).fluents f
  pub rates : (task : TaskParts) (plan : Plan) (from to : ℚ) (f : ℕ) → ends_at zeroℚ (rate_reckoned task plan from to f) ≡ rate task plan from to f
  pub moves : (task : TaskParts) (plan : Plan) (from to : ℚ) (s : State) (f : ℕ) → ends_at zeroℚ (move_of task plan from to s f) ≡ (moved task plan from to s).fluents f
  pub time_costs : (c : LateCost) (m : ℚ) → IsTrue (not ((m ≤? c.soft) || (c.hard ≤? m))) → ends_at zeroℚ (late_reckoned c (Some m)) ≡ late_value c (Some m)
  pub pieces : (lower : ℚ) (p : Piece) (m : ℚ) → ends_at zeroℚ (piece_reckoned lower p m) ≡ piece_value lower p m
  pub costs : (task : TaskParts) (plan : Plan) → ends_at zeroℚ (cost_reckoned task plan) ≡ cost task plan

-- ---- orderings

-- Times agree pair by pair with an ordering where they are as many as its steps, the link of each step with each later
-- one holds, and each step has its place in time.
pub record AgreeInPairs (task : TaskParts) (rules : Rules) (o : Order) (times : List ℚ) : Type 0 where
  pub lengths : length times ≡ length o.steps
  pub links : (i j : ℕ) → i < j → j < length o.steps → IsTrue (link_holds rules (pair_link task o i j) (time_at times i) (time_at times j))
  pub places : (k : ℕ) → k < length o.steps → IsTrue (is_placed task rules (slice_index o.steps k) (time_at times k))

-- Times agree with a built ordering exactly where they do so pair by pair.
abbrev pub AgreementGoesByPairs : Type 0
AgreementGoesByPairs = (task : TaskParts) (rules : Rules) (o : Order) (times : List ℚ) → ArePositive rules → IsTrue (is_built task o)
    → IsTrue (agree task rules o times) ↔ AgreeInPairs task rules o times

-- Snap actions that clash, and aren't both timed, are set apart; so times that agree keep them at the distance that
-- validity asks.
abbrev pub ClashesAreSetApart : Type 0
ClashesAreSetApart = (task : TaskParts) (i j : ℕ) → IsWellMade task → IsTrue (clash task (snap_of task i) (snap_of task j))
    → IsTrue (not (is_timed (snap_of task i).kind && is_timed (snap_of task j).kind)) → link task (snap_of task i) (snap_of task j) ≡ Apart

-- The timed plan of an ordering and its times is formed, whatever they are.
abbrev pub TimedPlansAreFormed : Type 0
TimedPlansAreFormed = (task : TaskParts) (o : Order) (times : List ℚ) → IsWellMade task → IsFormed task (plan_of task o times)

-- The timed plan of a closed ordering has as many plan steps as the ordering, whatever the times are.
abbrev pub TimedPlansHaveTheSteps : Type 0
TimedPlansHaveTheSteps = (task : TaskParts) (o : Order) (times : List ℚ) → IsWellMade task → IsClosedOrdering task o
    → length times ≡ length o.steps → step_count task (plan_of task o times) ≡ plan_step_count task o.steps

-- ---- links by touches

-- one touch marks and the other marks or looks
abbrev pub marks_apart : Touch → Touch → Bool
marks_apart Mark Mark = true
marks_apart Mark Look = true
marks_apart Look Mark = true
marks_apart _ _ = false

-- one touch bends
abbrev pub bends_one : Touch → Touch → Bool
bends_one Bend _ = true
bends_one _ Bend = true
bends_one _ _ = false

-- two touches of one token pass a test, for some touch of each of two lists
abbrev pub some_meeting : (Touch → Touch → Bool) → List (ℕ × Touch) → List (ℕ × Touch) → Bool
some_meeting test xs ys = list_any (λ x. list_any (λ y. (x.0 == y.0) && test x.1 y.1) ys) xs

-- The link of two snap actions is read off their touches: Apart where one marks a token that the other marks or looks
-- at, else Weak where one bends a token that the other touches, else Free.
abbrev pub LinksByTouches : Type 0
LinksByTouches = (task : TaskParts) (x y : Snap)
    → link task x y ≡ (if is_timed x.kind && is_timed y.kind then Free
    else (if some_meeting marks_apart (touches_of task x) (touches_of task y) then Apart
    else (if some_meeting bends_one (touches_of task x) (touches_of task y) then Weak else Free)))

-- ---- sorting by time

-- a step put before the first that isn't earlier
abbrev pub put_by_time : ℕ × ℚ → List (ℕ × ℚ) → List (ℕ × ℚ)
put_by_time p [] = p ∷ []
put_by_time p (q ∷ qs) = cond (p.1 ≤? q.1) (p ∷ q ∷ qs) (q ∷ put_by_time p qs)

abbrev pub by_time : List (ℕ × ℚ) → List (ℕ × ℚ)
by_time [] = []
by_time (p ∷ ps) = put_by_time p (by_time ps)

-- Steps whose links hold may be sorted by time, ties in their order, and their links still hold.
abbrev pub SortingKeepsLinks : Type 0
SortingKeepsLinks = (task : TaskParts) (rules : Rules) (ps : List (ℕ × ℚ)) → zeroℚ ≤ℚ rules.epsilon → IsTrue (are_linked task rules ps) → IsTrue (are_linked task rules (by_time ps))
