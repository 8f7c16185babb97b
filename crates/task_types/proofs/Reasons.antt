-- A line's over-all condition holds at every instant exactly where it holds on each open segment of the line.
use Rattle.std.proofs.Common.{◌≡◌, refl, sym, subst, ℕ, zero, suc, ◌<◌, ◌≤◌, ◌&&◌, List, [], ◌∷◌, length, map, arith}
use Rattle.std.specs.Prelude.{slice_index_or, IsTrue}
use Rattle.std.specs.List.{AllByRecursion, flat_map}
use Rattle.std.specs.declared.cmp.Ordering.{Ordering}
use Rattle.std.specs.declared.cmp.Ordering.TheVariants.{Less, Equal, Greater}
use Rattle.std.specs.Ordering.{MatchOrdering}
use native.Mathlib.Decide.{dec_lt}
use Rattle.rational.specs.Rational.{ℚ, cmp_ℚ, ◌≤ℚ◌, ◌<ℚ◌}
use Rattle.rational.specs.Rational.{zeroℚ}
use Rattle.rational.proofs.Comparisons.{cmp_ranks}
use Rattle.rational.proofs.Order.{lt_le}
use Rattle.basics.proofs.Bools.{and_left, and_right, and_in}
use Rattle.basics.proofs.Lists.{each_left}
use Rattle.basics.specs.Duties.{Duty, AllMet}
use Rattle.task_types.specs.declared.plans.Reason.{Reason}
use Rattle.task_types.specs.declared.parts.TaskParts.{TaskParts}
use Rattle.task_types.specs.declared.plans.PlanLine.{PlanLine}
use Rattle.task_types.specs.Tests.{◌≤?◌}
use Rattle.task_types.specs.Plan.{Plan, IsFormed, action_of, end_of, line_steps, timed_steps, steps, ascending, in_place, beside, happenings}
use Rattle.task_types.specs.Course.{time_of}
use Rattle.task_types.specs.Valid.{HoldsWithin, HoldsOverAll, segments, line_over_alls}
use Rattle.rational.proofs.Inequalities.{lt_trans, lt_le_trans, le_lt_trans}
use Rattle.task_types.proofs.Comparisons.{le_in, le_out, eq_le, lt_le_absurd}
use Rattle.task_types.proofs.Everyone.{all_map, all_both, all_of_map, all_of_flat_map}
use Rattle.task_types.specs.Laws.{Ascends}
use Rattle.task_types.proofs.Instants.{happenings-Ascends}
use Rattle.task_types.proofs.Segment.{segment, ends_outside, below_later}
use Rattle.task_types.proofs.Whole.{over_segments}

-- ---- each step's time is a happening

abbrev pub Has : ℚ → List ℚ → Type 0
Has x ts = (k : ℕ) × (k < length ts) × (slice_index_or ts k zeroℚ ≡ x)

later : (x t : ℚ) (ts : List ℚ) → Has x ts → Has x (t ∷ ts)
later x t ts h = (suc h.0, omega (arith, h.1), h.2)

all_at : (P : ℚ → Type 0) (ts : List ℚ) → AllByRecursion P ts → (k : ℕ) → k < length ts → P (slice_index_or ts k zeroℚ)
all_at P [] a k h = absurd (omega arith)
all_at P (t ∷ ts) a zero h = a.0
all_at P (t ∷ ts) a (suc k) h = all_at P ts a.1 k (omega arith)

themselves : (ts : List ℚ) → AllByRecursion (λ x. Has x ts) ts
themselves [] = tt
themselves (t ∷ ts) = ((0, omega arith, refl), all_map (λ x. Has x ts) (λ x. Has x (t ∷ ts)) ts (λ x h. later x t ts h) (themselves ts))

in_place-new : (t : ℚ) (us : List ℚ) → Has t (in_place t us)
in_place-new t [] = (0, omega arith, refl)
in_place-new t (u ∷ us) = go (cmp_ℚ t u) (cmp_ranks t u) (in_place-new t us)
  where
    go : (o : Ordering) → MatchOrdering o (t <ℚ u) (t ≡ u) (u <ℚ t) → Has t (in_place t us) → Has t (beside o t u us (in_place t us))
    go Less m r = (0, omega arith, refl)
    go Equal m r = (0, omega arith, sym m)
    go Greater m r = later t u (in_place t us) r

in_place-old : (t : ℚ) (us : List ℚ) → AllByRecursion (λ x. Has x (in_place t us)) us
in_place-old t [] = tt
in_place-old t (u ∷ us) = go (cmp_ℚ t u) (in_place-old t us)
  where
    go : (o : Ordering) → AllByRecursion (λ x. Has x (in_place t us)) us → AllByRecursion (λ x. Has x (beside o t u us (in_place t us))) (u ∷ us)
    go Less r = all_map (λ x. Has x (u ∷ us)) (λ x. Has x (t ∷ u ∷ us)) (u ∷ us) (λ x h. later x t (u ∷ us) h) (themselves (u ∷ us))
    go Equal r = themselves (u ∷ us)
    go Greater r = ((0, omega arith, refl), all_map (λ x. Has x (in_place t us)) (λ x. Has x (u ∷ in_place t us)) us (λ x h. later x u (in_place t us) h) r)

ascending-has : (ts : List ℚ) → AllByRecursion (λ x. Has x (ascending ts)) ts
ascending-has [] = tt
ascending-has (t ∷ ts) = (
  in_place-new t (ascending ts),
  all_map (λ x. Has x (ascending ts)) (λ x. Has x (in_place t (ascending ts))) ts
      (λ x h. subst (λ y. Has y (in_place t (ascending ts))) h.2 (all_at (λ y. Has y (in_place t (ascending ts))) (ascending ts) (in_place-old t (ascending ts)) h.0 h.1)) (ascending-has ts),
)

pub steps-happen : (task : TaskParts) (plan : Plan) → AllByRecursion (λ s. Has s.time (happenings task plan)) (steps task plan)
unfolding happenings
steps-happen task plan = all_of_map (λ x. Has x (happenings task plan)) (λ s. s.time) (steps task plan) (ascending-has (map (λ s. s.time) (steps task plan)))

-- ---- later numbers, later times

no_earlier : (ts : List ℚ) (i j : ℕ) → Ascends ts → i ≤ j → j < length ts → slice_index_or ts i zeroℚ ≤ℚ slice_index_or ts j zeroℚ
no_earlier [] i j a h l = absurd (omega arith)
no_earlier (t ∷ ts) zero zero a h l = eq_le t t refl
no_earlier (t ∷ ts) zero (suc j) a h l = lt_le t (slice_index_or ts j zeroℚ) (below_later t j ts a.0 (omega arith))
no_earlier (t ∷ ts) (suc i) zero a h l = absurd (omega arith)
no_earlier (t ∷ ts) (suc i) (suc j) a h l = no_earlier ts i j a.1 (omega arith) (omega arith)

-- ---- segments

segment_met : (d : ℚ × ℚ → Duty Reason) (ts : List ℚ) (k : ℕ) → AllMet (map d (segments ts)) → suc k < length ts → (d (slice_index_or ts k zeroℚ, slice_index_or ts (suc k) zeroℚ)).Met
segment_met d [] k m h = absurd (omega arith)
segment_met d (t ∷ []) k m h = absurd (omega arith)
segment_met d (t ∷ u ∷ us) zero m h = m.0
segment_met d (t ∷ u ∷ us) (suc k) m h = segment_met d (u ∷ us) k m.1 (omega arith)

each_met : (d : ℚ × ℚ → Duty Reason) (gs : List (ℚ × ℚ)) → ((g : ℚ × ℚ) → (d g).Met) → AllMet (map d gs)
each_met d [] f = tt
each_met d (g ∷ gs) f = (f g, each_met d gs f)

-- what holds over a line holds on each of its segments
pub over_all-segments : (task : TaskParts) (plan : Plan) (l : PlanLine) → HoldsOverAll task plan l → AllMet (line_over_alls task plan l)
over_all-segments task plan l f = each_met _ (segments (happenings task plan)) (λ g w t h k. f t (le_lt_trans l.at g.0 t (le_out l.at g.0 (and_left (l.at ≤? g.0) (g.1 ≤? end_of l) w)) h) (lt_le_trans t g.1 (end_of l) k (le_out g.1 (end_of l) (and_right (l.at ≤? g.0) (g.1 ≤? end_of l) w))))

within_moved : (task : TaskParts) (plan : Plan) (l : PlanLine) (from to : ℚ) → from ≡ l.at → to ≡ end_of l → HoldsWithin task plan (action_of task l.action).over_all from to → HoldsOverAll task plan l
within_moved task plan l from to e f w t h k = w t (subst (λ x. x <ℚ t) (sym e) h) (subst (λ x. t <ℚ x) (sym f) k)

-- what holds on each segment of a line holds over the line
segments_over_all : (task : TaskParts) (plan : Plan) (l : PlanLine) → IsFormed task plan → AllMet (line_over_alls task plan l) → Has l.at (happenings task plan) → Has (end_of l) (happenings task plan) → HoldsOverAll task plan l
segments_over_all task plan l formed m s e t h k = elim (dec_lt s.0 e.0) [ yes b ↦ forwards b t h k | no b ↦ absurd (lt_le_absurd l.at (end_of l) (lt_trans l.at t (end_of l) h k) (backwards b)) ]
  where
    backwards : (s.0 < e.0 → ⊥) → end_of l ≤ℚ l.at
    backwards b = subst (λ x. x ≤ℚ l.at) e.2 (subst (λ x. slice_index_or (happenings task plan) e.0 zeroℚ ≤ℚ x) s.2 (no_earlier (happenings task plan) e.0 s.0 (happenings-Ascends task plan) (omega arith) s.1))

    inside : (j : ℕ) → s.0 ≤ j → j < e.0 → IsTrue ((l.at ≤? time_of task plan j) && (time_of task plan (suc j) ≤? end_of l))
    inside j a b = and_in (l.at ≤? time_of task plan j) (time_of task plan (suc j) ≤? end_of l)
        (le_in l.at (time_of task plan j) (subst (λ x. x ≤ℚ time_of task plan j) s.2 (no_earlier (happenings task plan) s.0 j (happenings-Ascends task plan) a (omega (arith, e.1)))))
        (le_in (time_of task plan (suc j)) (end_of l) (subst (λ x. time_of task plan (suc j) ≤ℚ x) e.2 (no_earlier (happenings task plan) (suc j) e.0 (happenings-Ascends task plan) (omega arith) e.1)))

    forwards : s.0 < e.0 → HoldsOverAll task plan l
    forwards b = within_moved task plan l (time_of task plan s.0) (time_of task plan e.0) s.2 e.2
        (over_segments task plan (action_of task l.action).over_all s.0 e.0 formed b e.1
        (λ j a c. (segment task plan j (action_of task l.action).over_all (omega (arith, e.1)) formed).0 (segment_met _ (happenings task plan) j m (omega (arith, e.1)) (inside j a c))))

starts_happen : (task : TaskParts) (plan : Plan) → AllByRecursion (λ l. Has l.at (happenings task plan)) plan
starts_happen task plan = all_map (λ l. AllByRecursion (λ s. Has s.time (happenings task plan)) (line_steps task l)) (λ l. Has l.at (happenings task plan)) plan (λ l h. h.0)
    (all_of_flat_map (λ s. Has s.time (happenings task plan)) (line_steps task) plan (each_left (λ s. Has s.time (happenings task plan)) (flat_map (line_steps task) plan) (timed_steps task) (steps-happen task plan)))

-- over the lines of a plan: every instant, or every segment
pub every_instant-every_segment : (task : TaskParts) (plan : Plan) → IsFormed task plan → AllByRecursion (λ l. AllMet (line_over_alls task plan l)) plan → AllByRecursion (HoldsOverAll task plan) plan
every_instant-every_segment task plan formed m = all_both (λ l. AllMet (line_over_alls task plan l)) (λ l. Has l.at (happenings task plan) × Has (end_of l) (happenings task plan)) (HoldsOverAll task plan) plan
    (λ l a b. segments_over_all task plan l formed a b.0 b.1) m
    (all_both (λ l. Has l.at (happenings task plan)) (λ l. Has (end_of l) (happenings task plan)) (λ l. Has l.at (happenings task plan) × Has (end_of l) (happenings task plan)) plan (λ l a b. (a, b)) (starts_happen task plan)
    (ends_outside task plan (λ x. Has x (happenings task plan)) formed (steps-happen task plan)))
