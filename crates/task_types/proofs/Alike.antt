-- Plans with the same lines in another order, or with other numbers, have the same happenings and states where no two assignments to one fluent meet.
use Rattle.std.proofs.Common.{◌≡◌, refl, sym, ap, subst, ◌∙◌, ℕ, zero, suc, ◌≤◌, List, [], ◌∷◌, length, map, fold, length-append}
use Rattle.std.proofs.lemmas.List.{length-map}
use Rattle.std.specs.Prelude.{slice_index_or, IsPermutation}
use Rattle.std.specs.List.{filter, flat_map}
use Rattle.std.proofs.Math.Path.{fun_ext}
use Rattle.std.proofs.lemmas.List.Sorted.{IsPermutation-sym, IsPermutation-append_left, IsPermutation-map, Contains-permutation}
use Rattle.rational.specs.Rational.{ℚ, zeroℚ, ◌+ℚ◌, ◌*ℚ◌, ◌-ℚ◌}
use Rattle.rational.proofs.Ring.{law, ◌⊕◌, num, ◌≐◌}
use Rattle.rational.proofs.Field.{ℚ_ring}
use Rattle.task_types.specs.declared.parts.TaskParts.{TaskParts}
use Rattle.task_types.specs.Tests.{◌=?◌, total, last_or_else}
use Rattle.task_types.specs.Sets.{is_in, numbers}
use Rattle.task_types.specs.State.{State}
use Rattle.task_types.specs.Plan.{Plan, Step, line_steps, plan_steps, timed_steps, steps, happenings}
use Rattle.task_types.specs.Course.{entries_of, effect_of, amount, assigned, increased, happen, rates_of, runs_between, rate, moved, steps_at, time_of, count, reached, before, after, count_before, state_after, last_state, initial, state}
use Rattle.task_types.specs.Trace.{trace, Moment}
use Rattle.task_types.specs.Agreement.{unnumbered, SameLines}
use Rattle.task_types.specs.Laws.{HasTimes, AssignsOnce}
use Rattle.task_types.proofs.Happenings.{happenings-times, one_has_times}
use Rattle.task_types.proofs.Reordering.{any_reordered, total_reordered, flat_map_reordered, filter_reordered, one_order, flat_map-unseen, flat_map-filter-unseen}

-- the same plan steps in some order, and the same rates
pub record IsAlike (task : TaskParts) (plan other : Plan) : Type 0 where
  pub steps : IsPermutation (plan_steps task plan) (plan_steps task other)
  pub rates : (from to : ℚ) (f : ℕ) → rate task plan from to f ≡ rate task other from to f

pub SameLines-IsAlike : (task : TaskParts) (plan other : Plan) → SameLines plan other → IsAlike task plan other
unfolding rate
SameLines-IsAlike task plan other h = record {
  steps = subst (λ l. IsPermutation l (plan_steps task other)) (flat_map-unseen unnumbered (line_steps task) (λ l. refl) plan)
      (subst (λ l. IsPermutation (flat_map (line_steps task) (map unnumbered plan)) l) (flat_map-unseen unnumbered (line_steps task) (λ l. refl) other)
      (flat_map_reordered (line_steps task) (map unnumbered plan) (map unnumbered other) h));
  rates = λ from to f. sym (ap total (flat_map-filter-unseen unnumbered (λ l. rates_of task l f) (runs_between from to) (λ l. refl) (λ l. refl) plan))
      ∙ total_reordered (flat_map (λ l. rates_of task l f) (filter (runs_between from to) (map unnumbered plan))) (flat_map (λ l. rates_of task l f) (filter (runs_between from to) (map unnumbered other)))
      (flat_map_reordered (λ l. rates_of task l f) (filter (runs_between from to) (map unnumbered plan)) (filter (runs_between from to) (map unnumbered other)) (filter_reordered (runs_between from to) (map unnumbered plan) (map unnumbered other) h))
      ∙ ap total (flat_map-filter-unseen unnumbered (λ l. rates_of task l f) (runs_between from to) (λ l. refl) (λ l. refl) other);
}

-- ---- effects of one happening, in any order

pub length-assigned : (task : TaskParts) (here : List Step) (s : State) (f : ℕ) → length (assigned task here s f) ≡ length (flat_map (λ step. entries_of f (effect_of task step).assigns) here)
length-assigned task [] s f = refl
length-assigned task (x ∷ xs) s f = length-append (map (amount x s) (entries_of f (effect_of task x).assigns)) (assigned task xs s f)
    ∙ rw (length-map (entries_of f (effect_of task x).assigns) (amount x s), length-assigned task xs s f) (sym (length-append (entries_of f (effect_of task x).assigns) (flat_map (λ step. entries_of f (effect_of task step).assigns) xs)))

pub fold-total : (q : ℚ) (xs : List ℚ) → fold (λ q r. q +ℚ r) q xs ≡ q +ℚ total xs
fold-total q [] = law ℚ_ring (q ∷ q ∷ []) (λ q r. (q) ≐ (q ⊕ num 0)) refl
fold-total q (x ∷ xs) = fold-total (q +ℚ x) xs ∙ law ℚ_ring (q ∷ x ∷ (total xs) ∷ []) (λ q x t. ((q ⊕ x) ⊕ t) ≐ (q ⊕ (x ⊕ t))) refl

pub happen_reordered : (task : TaskParts) (here there : List Step) (s : State) → IsPermutation here there → ((f : ℕ) → length (assigned task here s f) ≤ 1) → happen task here s ≡ happen task there s
unfolding happen
happen_reordered task here there s p once = same_state (fun_ext facts) (fun_ext fluents)
  where
    facts : (f : ℕ) → (happen task here s).facts f ≡ (happen task there s).facts f
    facts f = rw (any_reordered (λ step. is_in f (effect_of task step).adds) here there p, any_reordered (λ step. is_in f (effect_of task step).deletes) here there p) refl

    fluents : (f : ℕ) → (happen task here s).fluents f ≡ (happen task there s).fluents f
    fluents f = ap (λ l. fold (λ q r. q +ℚ r) (last_or_else (s.fluents f) l) (increased task here s f)) (one_order (assigned task here s f) (assigned task there s f) (flat_map_reordered (λ step. map (amount step s) (entries_of f (effect_of task step).assigns)) here there p) (once f))
        ∙ fold-total (last_or_else (s.fluents f) (assigned task there s f)) (increased task here s f)
        ∙ ap (λ q. last_or_else (s.fluents f) (assigned task there s f) +ℚ q) (total_reordered (increased task here s f) (increased task there s f) (flat_map_reordered (λ step. map (amount step s) (entries_of f (effect_of task step).increases)) here there p))
        ∙ sym (fold-total (last_or_else (s.fluents f) (assigned task there s f)) (increased task there s f))

    same_state : (happen task here s).facts ≡ (happen task there s).facts → (happen task here s).fluents ≡ (happen task there s).fluents → happen task here s ≡ happen task there s
    same_state e g = rw (e, g) refl

-- ---- the states of plans that are alike

module _ (task : TaskParts) (plan other : Plan) (alike : IsAlike task plan other) where
  pub steps-same : IsPermutation (steps task plan) (steps task other)
  steps-same = IsPermutation-append_left (timed_steps task) (plan_steps task plan) (plan_steps task other) alike.steps

  pub happenings-same : happenings task plan ≡ happenings task other
  happenings-same = one_has_times (happenings task plan) (happenings task other) (map (λ s. s.time) (steps task other)) moved_times (happenings-times task other)
    where
      times : IsPermutation (map (λ s. s.time) (steps task plan)) (map (λ s. s.time) (steps task other))
      times = IsPermutation-map (λ (s : Step). s.time) (steps task plan) (steps task other) (IsPermutation-append_left (timed_steps task) (plan_steps task plan) (plan_steps task other) alike.steps)

      moved_times : HasTimes (happenings task plan) (map (λ s. s.time) (steps task other))
      moved_times = record {
        ascends = (happenings-times task plan).ascends;
        each = λ x h. (happenings-times task plan).each x (Contains-permutation (map (λ s. s.time) (steps task other)) (map (λ s. s.time) (steps task plan)) x (IsPermutation-sym (map (λ s. s.time) (steps task plan)) (map (λ s. s.time) (steps task other)) times) h);
        no_other = λ x h. Contains-permutation (map (λ s. s.time) (steps task plan)) (map (λ s. s.time) (steps task other)) x times ((happenings-times task plan).no_other x h);
      }

  pub count-same : count task plan ≡ count task other
  count-same = ap length happenings-same

  pub time-same : (k : ℕ) → time_of task plan k ≡ time_of task other k
  time-same k = ap (λ ts. slice_index_or ts k zeroℚ) happenings-same

  pub moved-same : (from to : ℚ) (s : State) → moved task plan from to s ≡ moved task other from to s
  unfolding moved
  moved-same from to s = ap (λ (g : ℕ → ℚ). record { facts = s.facts; fluents = λ f. s.fluents f +ℚ g f *ℚ (to -ℚ from) }) (fun_ext (alike.rates from to))

  pub steps_at-same : (t : ℚ) → IsPermutation (steps_at task plan t) (steps_at task other t)
  steps_at-same t = filter_reordered (λ s. s.time =? t) (steps task plan) (steps task other) steps-same

  module _ (once : AssignsOnce task plan) where
    pub happen-same : (t : ℚ) (s : State) → happen task (steps_at task plan t) s ≡ happen task (steps_at task other t) s
    happen-same t s = happen_reordered task (steps_at task plan t) (steps_at task other t) s (steps_at-same t) (λ f. subst (λ n. n ≤ 1) (sym (length-assigned task (steps_at task plan t) s f)) (once t f))

    pub reached-same : (k : ℕ) (t : ℚ) → reached task plan k t ≡ reached task other k t
    unfolding reached
    reached-same zero t = refl
    reached-same (suc k) t =
        moved-same (time_of task plan k) t (happen task (steps_at task plan (time_of task plan k)) (reached task plan k (time_of task plan k)))
        ∙ ap (λ s. moved task other (time_of task plan k) t s) (happen-same (time_of task plan k) (reached task plan k (time_of task plan k)))
        ∙ ap (λ x. moved task other x t (happen task (steps_at task other x) (reached task plan k x))) (time-same k)
        ∙ ap (λ s. moved task other (time_of task other k) t (happen task (steps_at task other (time_of task other k)) s)) (reached-same k (time_of task other k))

    pub before-same : (t : ℚ) → before task plan t ≡ before task other t
    unfolding before
    before-same t = ap (λ ts. reached task plan (count_before t ts) t) happenings-same ∙ reached-same (count_before t (happenings task other)) t

    pub after-same : (t : ℚ) → after task plan t ≡ after task other t
    unfolding after
    after-same t = happen-same t (before task plan t) ∙ ap (happen task (steps_at task other t)) (before-same t)

    pub state_after-same : (k : ℕ) → state_after task plan k ≡ state_after task other k
    state_after-same k = happen-same (time_of task plan k) (reached task plan k (time_of task plan k))
        ∙ ap (λ x. happen task (steps_at task other x) (reached task plan k x)) (time-same k)
        ∙ ap (happen task (steps_at task other (time_of task other k))) (reached-same k (time_of task other k))

    state-same : (k : ℕ) → state task plan k ≡ state task other k
    state-same zero = refl
    state-same (suc k) = state_after-same k

    pub last_state-same : last_state task plan ≡ last_state task other
    last_state-same = ap (state task plan) count-same ∙ state-same (count task other)

    -- a state of the trace after happening k
    moment : Plan → ℕ → Moment
    moment p k = record { facts = (state_after task p k).facts; time = time_of task p k }

    pub trace-same : trace task plan ≡ trace task other
    unfolding moment
    trace-same = ap (λ xs. record { facts = (initial task).facts; time = zeroℚ } ∷ xs)
        (ap (λ (g : ℕ → Moment). map g (numbers (count task plan))) (fun_ext same_moment) ∙ ap (λ n. map (moment other) (numbers n)) count-same)
      where
        same_moment : (k : ℕ) → moment plan k ≡ moment other k
        same_moment k = rw (state_after-same k, time-same k) refl
