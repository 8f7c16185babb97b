-- Validity and cost don't depend on the order of a plan's lines, nor on their numbers.
use Rattle.std.proofs.Common.{◌≡◌, refl, sym, ap, subst, ◌∙◌, ℕ, Bool, true, false, ◌&&◌, List, [], ◌∷◌, map, Some, None, Option}
use Rattle.std.specs.Prelude.{IsPermutation, IsTrue, if◌then◌else◌}
use Rattle.std.specs.List.{AllByRecursion, list_all, flat_map}
use Rattle.std.proofs.Math.Bool.{or_comm}
use Rattle.std.proofs.Math.Path.{fun_ext}
use Rattle.rational.specs.Rational.{ℚ, ◌+ℚ◌, ◌*ℚ◌}
use Rattle.task_types.specs.declared.actions.Bound.{Bound}
use Rattle.task_types.specs.declared.conditions.Condition.{Condition}
use Rattle.task_types.specs.declared.parts.Rules.{Rules}
use Rattle.task_types.specs.declared.parts.TaskParts.{TaskParts}
use Rattle.task_types.specs.declared.plans.PlanLine.{PlanLine}
use Rattle.task_types.specs.Tests.{◌≤?◌, total}
use Rattle.task_types.specs.State.{State, holds, value}
use Rattle.task_types.specs.Plan.{Plan, Step, is_formed, action_of, snap_of, end_of, plan_steps, timed_steps}
use Rattle.task_types.specs.Course.{before, last_state}
use Rattle.task_types.specs.Trace.{Trace, trace, met}
use Rattle.task_types.specs.Cost.{soft_cost, total_time, cost, greatest}
use Rattle.task_types.proofs.Greatest.{greatest_reordered}
use Rattle.task_types.specs.Valid.{Valid, is_in_time, has_fit_duration, duration_fits, meets_bound, are_apart, each_apart, are_kept_apart, can_start, can_end, end_holds, HoldsWithin, HoldsOverAll}
use Rattle.task_types.specs.Agreement.{unnumbered, SameLines}
use Rattle.task_types.specs.Laws.{AssignsOnce}
use Rattle.task_types.proofs.Links.{clash_comm}
use Rattle.task_types.proofs.Everyone.{all_map}
use Rattle.task_types.proofs.Reordering.{flat_map_reordered, flat_map-unseen, reordered, all_reordered, all-unseen, and_crossed}
use Rattle.task_types.proofs.Alike.{IsAlike, SameLines-IsAlike, before-same, after-same, last_state-same, trace-same}

-- a test of lines that doesn't see their numbers
pub all_lines : (p : PlanLine → Bool) → ((l : PlanLine) → p (unnumbered l) ≡ p l) → (plan other : Plan) → SameLines plan other → list_all p plan ≡ list_all p other
all_lines p h plan other e = sym (all-unseen unnumbered p h plan) ∙ all_reordered p (map unnumbered plan) (map unnumbered other) e ∙ all-unseen unnumbered p h other

every_unseen : {X : Type 0} (u : X → X) (P : X → Type 0) → ((x : X) → P x → P (u x)) → (xs : List X) → AllByRecursion P xs → AllByRecursion P (map u xs)
every_unseen u P f [] h = tt
every_unseen u P f (x ∷ xs) h = (f x h.0, every_unseen u P f xs h.1)

every_seen : {X : Type 0} (u : X → X) (P : X → Type 0) → ((x : X) → P (u x) → P x) → (xs : List X) → AllByRecursion P (map u xs) → AllByRecursion P xs
every_seen u P f [] h = tt
every_seen u P f (x ∷ xs) h = (f x h.0, every_seen u P f xs h.1)

pub every_reordered : {X : Type 0} (P : X → Type 0) (xs ys : List X) → IsPermutation xs ys → AllByRecursion P xs → AllByRecursion P ys
every_reordered P = reordered (λ xs ys. AllByRecursion P xs → AllByRecursion P ys) (λ xs h. h) (λ xs ys zs f g h. g (f h)) (λ x xs ys f h. (h.0, f h.1)) (λ x y zs h. (h.1.0, (h.0, h.1.1)))

-- what holds of each line
pub every_line : (P : PlanLine → Type 0) → ((l : PlanLine) → P l → P (unnumbered l)) → ((l : PlanLine) → P (unnumbered l) → P l) → (plan other : Plan) → SameLines plan other → AllByRecursion P plan → AllByRecursion P other
every_line P f g plan other e h = every_seen unnumbered P g other (every_reordered P (map unnumbered plan) (map unnumbered other) e (every_unseen unnumbered P f plan h))

-- ---- steps kept apart

pub apart_comm : (task : TaskParts) (rules : Rules) (x y : Step) → are_apart task rules x y ≡ are_apart task rules y x
apart_comm task rules x y = rw (clash_comm task (snap_of task x.snap) (snap_of task y.snap), or_comm (x.time +ℚ rules.epsilon ≤? y.time) (y.time +ℚ rules.epsilon ≤? x.time)) refl

pub each_apart_reordered : (task : TaskParts) (rules : Rules) (xs ys : List Step) → IsPermutation xs ys → each_apart task rules xs ≡ each_apart task rules ys
each_apart_reordered task rules xs ys p = (reordered (λ xs ys. (each_apart task rules xs ≡ each_apart task rules ys) × ((p : Step → Bool) → list_all p xs ≡ list_all p ys)) (λ xs. (refl, λ p. refl))
    (λ xs ys zs h k. (h.0 ∙ k.0, λ p. h.1 p ∙ k.1 p))
    (λ x xs ys h. (rw (h.1 (are_apart task rules x), h.0) refl, λ p. ap (λ b. p x && b) (h.1 p)))
    (λ x y zs. (crossing x y zs, λ p. and_crossed (p x) (p y) (list_all p zs))) xs ys p).0
  where
    four : (a b c d : Bool) → ((a && b) && (c && d)) ≡ ((a && c) && (b && d))
    four true true c d = refl
    four true false true d = refl
    four true false false d = refl
    four false b c d = refl

    crossing : (x y : Step) (zs : List Step) → (list_all (are_apart task rules x) (y ∷ zs) && (list_all (are_apart task rules y) zs && each_apart task rules zs)) ≡ (list_all (are_apart task rules y) (x ∷ zs) && (list_all (are_apart task rules x) zs && each_apart task rules zs))
    crossing x y zs = four (are_apart task rules x y) (list_all (are_apart task rules x) zs) (list_all (are_apart task rules y) zs) (each_apart task rules zs)
        ∙ ap (λ b. (b && list_all (are_apart task rules y) zs) && (list_all (are_apart task rules x) zs && each_apart task rules zs)) (apart_comm task rules x y)

pub kept_apart-same : (task : TaskParts) (rules : Rules) (plan other : Plan) → IsPermutation (plan_steps task plan) (plan_steps task other) → are_kept_apart task rules plan ≡ are_kept_apart task rules other
kept_apart-same task rules plan other p = rw (each_apart_reordered task rules (plan_steps task plan) (plan_steps task other) p, all_reordered (λ x. list_all (are_apart task rules x) (timed_steps task)) (plan_steps task plan) (plan_steps task other) p) refl

-- ---- validity

module _ (task : TaskParts) (rules : Rules) (plan other : Plan) (same : SameLines plan other) (once : AssignsOnce task plan) where
  like : IsAlike task plan other
  like = SameLines-IsAlike task plan other same

  here : (t : ℚ) → before task plan t ≡ before task other t
  here t = before-same task plan other (SameLines-IsAlike task plan other same) once t

  meets_bound_here : (l : PlanLine) (d : ℚ) (b : Bound) → meets_bound task plan l d b ≡ meets_bound task other l d b
  meets_bound_here l d b = ap (λ (s : State). let v = value b.form s.fluents in if b.at_least then (v ≤? d) else (d ≤? v)) (here (if b.at_end then end_of l else l.at))

  fits_here : (l : PlanLine) (d : Option ℚ) → duration_fits task rules plan l d ≡ duration_fits task rules other l d
  fits_here l None = refl
  fits_here l (Some d) = ap (λ (p : Bound → Bool). (rules.epsilon ≤? d) && list_all p (action_of task l.action).bounds) (fun_ext (meets_bound_here l d))

  can_start_here : (l : PlanLine) → can_start task plan l ≡ can_start task other l
  can_start_here l = ap (holds (snap_of task (action_of task l.action).start).condition) (here l.at)

  end_holds_here : (l : PlanLine) (e : Option ℕ) → end_holds task plan l e ≡ end_holds task other l e
  end_holds_here l None = refl
  end_holds_here l (Some e) = ap (holds (snap_of task e).condition) (here (end_of l))

  within_here : (c : Condition) (from to : ℚ) → HoldsWithin task plan c from to → HoldsWithin task other c from to
  within_here c from to h t a b = (subst (λ s. IsTrue (holds c s)) (here t) (h t a b).0, subst (λ s. IsTrue (holds c s)) (after-same task plan other (SameLines-IsAlike task plan other same) once t) (h t a b).1)

  pub valid-same : Valid task rules plan → Valid task rules other
  valid-same v = record {
    formed = sym (all_lines (is_formed task) (λ l. refl) plan other same) ∙ v.formed;
    in_time = sym (all_lines (is_in_time rules) (λ l. refl) plan other same) ∙ v.in_time;
    durations = sym (all_lines (has_fit_duration task rules other) (λ l. refl) plan other same) ∙ sym (ap (λ (p : PlanLine → Bool). list_all p plan) (fun_ext (λ l. fits_here l l.duration))) ∙ v.durations;
    apart = sym (kept_apart-same task rules plan other (SameLines-IsAlike task plan other same).steps) ∙ v.apart;
    starts = sym (all_lines (can_start task other) (λ l. refl) plan other same) ∙ sym (ap (λ (p : PlanLine → Bool). list_all p plan) (fun_ext can_start_here)) ∙ v.starts;
    ends = sym (all_lines (can_end task other) (λ l. refl) plan other same) ∙ sym (ap (λ (p : PlanLine → Bool). list_all p plan) (fun_ext (λ l. end_holds_here l (action_of task l.action).end))) ∙ v.ends;
    over_all = every_line (HoldsOverAll task other) (λ l h. h) (λ l h. h) plan other same
        (all_map (HoldsOverAll task plan) (HoldsOverAll task other) plan (λ l h. within_here (action_of task l.action).over_all l.at (end_of l) h) v.over_all);
    goal = subst (λ s. IsTrue (holds task.goal s)) (last_state-same task plan other (SameLines-IsAlike task plan other same) once) v.goal;
    constraints = subst (λ xs. IsTrue (list_all (λ c. met c xs) task.hard)) (trace-same task plan other (SameLines-IsAlike task plan other same) once) v.constraints;
  }

-- ---- cost

total_time-same : (plan other : Plan) → SameLines plan other → total_time plan ≡ total_time other
total_time-same plan other same = ap greatest (sym (flat_map-unseen unnumbered (λ l. l.at ∷ end_of l ∷ []) (λ l. refl) plan))
    ∙ greatest_reordered (flat_map (λ l. l.at ∷ end_of l ∷ []) (map unnumbered plan)) (flat_map (λ l. l.at ∷ end_of l ∷ []) (map unnumbered other)) (flat_map_reordered (λ l. l.at ∷ end_of l ∷ []) (map unnumbered plan) (map unnumbered other) same)
    ∙ ap greatest (flat_map-unseen unnumbered (λ l. l.at ∷ end_of l ∷ []) (λ l. refl) other)

pub cost-same : (task : TaskParts) (plan other : Plan) → SameLines plan other → AssignsOnce task plan → cost task plan ≡ cost task other
unfolding cost
cost-same task plan other same once =
    ap (λ t. by_parts t (last_state task plan) (trace task plan)) (total_time-same plan other same)
    ∙ ap (λ s. by_parts (total_time other) s (trace task plan)) (last_state-same task plan other (SameLines-IsAlike task plan other same) once)
    ∙ ap (λ xs. by_parts (total_time other) (last_state task other) xs) (trace-same task plan other (SameLines-IsAlike task plan other same) once)
  where
    by_parts : ℚ → State → Trace → ℚ
    by_parts t s xs = task.metric.constant +ℚ task.metric.last *ℚ t +ℚ value task.metric.fluents s.fluents +ℚ total (map (λ c. soft_cost c xs s) task.soft)
