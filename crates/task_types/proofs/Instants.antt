-- The state at an instant between two happenings.
use Rattle.std.proofs.Common.{◌≡◌, refl, ap, ◌∙◌, ℕ, zero, suc, ◌<◌, cond, List, [], ◌∷◌, length, map, arith}
use Rattle.std.specs.Prelude.{slice_index_or}
use Rattle.std.specs.List.{AllByRecursion}
use Rattle.std.specs.declared.cmp.Ordering.{Ordering}
use Rattle.std.specs.declared.cmp.Ordering.TheVariants.{Less, Equal, Greater}
use Rattle.std.specs.Ordering.{MatchOrdering}
use Rattle.rational.specs.Rational.{ℚ, cmp_ℚ, ◌≤ℚ◌, ◌<ℚ◌}
use Rattle.rational.specs.Rational.{zeroℚ}
use Rattle.rational.proofs.Comparisons.{cmp_ranks}
use Rattle.task_types.specs.declared.parts.TaskParts.{TaskParts}
use Rattle.task_types.specs.Plan.{Plan, steps, ascending, in_place, beside, happenings}
use Rattle.task_types.specs.Course.{reached, before, moved, time_of, state_after, count, count_before}
use Rattle.task_types.specs.Laws.{Ascends}
use Rattle.rational.proofs.Inequalities.{lt_trans}
use Rattle.task_types.proofs.Comparisons.{lt_in, not_lt_in}

all_below : (t u : ℚ) (ts : List ℚ) → t <ℚ u → AllByRecursion (λ v. u <ℚ v) ts → AllByRecursion (λ v. t <ℚ v) ts
all_below t u [] h a = tt
all_below t u (v ∷ vs) h a = (lt_trans t u v h a.0, all_below t u vs h a.1)

below_in_place : (t u : ℚ) (us : List ℚ) → t <ℚ u → AllByRecursion (λ v. t <ℚ v) us → AllByRecursion (λ v. t <ℚ v) (in_place u us)
below_in_place t u [] h a = (h, tt)
below_in_place t u (v ∷ vs) h a = go (cmp_ℚ u v) (below_in_place t u vs h a.1)
  where
    go : (o : Ordering) → AllByRecursion (λ w. t <ℚ w) (in_place u vs) → AllByRecursion (λ w. t <ℚ w) (beside o u v vs (in_place u vs))
    go Less r = (h, a)
    go Equal r = a
    go Greater r = (a.0, r)

in_place-Ascends : (t : ℚ) (us : List ℚ) → Ascends us → Ascends (in_place t us)
in_place-Ascends t [] a = (tt, tt)
in_place-Ascends t (u ∷ us) a = go (cmp_ℚ t u) (cmp_ranks t u) (in_place-Ascends t us a.1)
  where
    go : (o : Ordering) → MatchOrdering o (t <ℚ u) (t ≡ u) (u <ℚ t) → Ascends (in_place t us) → Ascends (beside o t u us (in_place t us))
    go Less m r = ((m, all_below t u us m a.0), a)
    go Equal m r = a
    go Greater m r = (below_in_place u t us m a.0, r)

pub ascending-Ascends : (ts : List ℚ) → Ascends (ascending ts)
ascending-Ascends [] = tt
ascending-Ascends (t ∷ ts) = in_place-Ascends t (ascending ts) (ascending-Ascends ts)

-- happening times ascend strictly
pub happenings-Ascends : (task : TaskParts) (plan : Plan) → Ascends (happenings task plan)
unfolding happenings
happenings-Ascends task plan = ascending-Ascends (map (λ s. s.time) (steps task plan))

none_before : (t : ℚ) (us : List ℚ) → (0 < length us → t ≤ℚ slice_index_or us 0 zeroℚ) → count_before t us ≡ 0
none_before t [] h = refl
none_before t (u ∷ us) h = ap (λ b. cond b (suc (count_before t us)) zero) (not_lt_in u t (h (omega arith)))

-- k + 1 of some ascending times come before t, where t is above time k and at most the next
pub count_before_is : (ts : List ℚ) (k : ℕ) (t : ℚ) → Ascends ts → k < length ts → slice_index_or ts k zeroℚ <ℚ t
    → (suc k < length ts → t ≤ℚ slice_index_or ts (suc k) zeroℚ) → count_before t ts ≡ suc k
count_before_is [] k t a h l m = absurd (omega arith)
count_before_is (u ∷ us) zero t a h l m = ap (λ b. cond b (suc (count_before t us)) zero) (lt_in u t l) ∙ ap suc (none_before t us (λ n. m (omega arith)))
count_before_is (u ∷ us) (suc k) t a h l m =
    ap (λ b. cond b (suc (count_before t us)) zero) (lt_in u t (lt_trans u (slice_index_or us k zeroℚ) t (first k us a.0 (omega arith)) l))
    ∙ ap suc (count_before_is us k t a.1 (omega arith) l (λ n. m (omega arith)))
  where
    first : (k : ℕ) (us : List ℚ) → AllByRecursion (λ v. u <ℚ v) us → k < length us → u <ℚ slice_index_or us k zeroℚ
    first k [] a h = absurd (omega arith)
    first zero (v ∷ vs) a h = a.0
    first (suc k) (v ∷ vs) a h = first k vs a.1 (omega arith)

-- the state at an instant after a happening, and at most at the next, is the state after the former, moved
pub before-between : (task : TaskParts) (plan : Plan) (k : ℕ) (t : ℚ) → k < count task plan → time_of task plan k <ℚ t
    → (suc k < count task plan → t ≤ℚ time_of task plan (suc k))
    → before task plan t ≡ moved task plan (time_of task plan k) t (state_after task plan k)
unfolding before reached
before-between task plan k t h l m = ap (λ j. reached task plan j t) (count_before_is (happenings task plan) k t (happenings-Ascends task plan) h l m)
