-- What a pass reckons at a happening and on the way to the next is defined where the whole course is there.
use Rattle.std.proofs.Common.{◌≡◌, refl, sym, ap, subst, ◌∙◌, ℕ, suc, ◌+◌, ◌<◌, Bool, true, false, cond, if◌then◌else◌, List, [], ◌∷◌, ◌++◌, map, add-one, arith}
use Rattle.std.specs.Prelude.{nat_lt, IsPermutation}
use Rattle.std.specs.List.{AllByRecursion, filter, flat_map, enumerate_from}
use Rattle.exact_lin.specs.Forms.{LinearForm}
use Rattle.exact_lin.specs.Reckoning.{wide_limit}
use Rattle.exact_lin.specs.Reckonings.{Reckoning, Value, Sum, IsDefined}
use Rattle.basics.proofs.Naturals.{lt_in, lt_out}
use Rattle.rational.specs.Rational.{ℚ}
use Rattle.task_types.specs.declared.parts.Rules.{Rules}
use Rattle.task_types.specs.declared.parts.TaskParts.{TaskParts}
use Rattle.task_types.specs.declared.plans.PlanLine.{PlanLine}
use Rattle.task_types.specs.State.{State}
use Rattle.task_types.specs.Plan.{Plan, action_of}
use Rattle.task_types.specs.Course.{count, time_of, steps_at, state_before, state_after, runs_between}
use Rattle.task_types.specs.Reckoned.{read_reckoned, effects_at, move_at, move_to, over_all_reckoned, whole_at}
use Rattle.task_types.proofs.Reordering.{filter_reordered}
use Rattle.timed_meaning.specs.declared.placing.PlacedLine.{PlacedLine}
use Rattle.timed_meaning.specs.Answers.{Defined}
use Rattle.timed_meaning.specs.Owned.{placed, placed_lines}
use Rattle.plan_validator.specs.Readings.{one_value}
use Rattle.plan_validator.specs.Segments.{over_all_values}
use Rattle.task_types.proofs.Everyone.{all_both, all_map, all_of_flat_map}
use Rattle.timed_meaning.proofs.Amounts.{append-in}
use Rattle.plan_validator.proofs.Choosing.{same-reordered, each-flat_in}
use Rattle.metric_cost.proofs.Adding.{defined_left, defined_right}

-- ---- over-all forms, at both ends or end by end

module _ (s u : State) where
  abbrev both_ends : LinearForm → List Reckoning
  both_ends e = Value e s.fluents ∷ Value e u.fluents ∷ []

  ends_in : (es : List LinearForm) → Defined (flat_map (one_value s) es) → Defined (flat_map (one_value u) es) → Defined (flat_map both_ends es)
  ends_in [] a b = tt
  ends_in (e ∷ es) a b = (a.0, (b.0, ends_in es a.1 b.1))

  first_end : (es : List LinearForm) → Defined (flat_map both_ends es) → Defined (flat_map (one_value s) es)
  first_end [] d = tt
  first_end (e ∷ es) d = (d.0, first_end es d.1.1)

  second_end : (es : List LinearForm) → Defined (flat_map both_ends es) → Defined (flat_map (one_value u) es)
  second_end [] d = tt
  second_end (e ∷ es) d = (d.1.0, second_end es d.1.1)

module _ (task : TaskParts) (plan : Plan) (from to : ℚ) (lines : List PlacedLine) (listed : IsPermutation (placed_lines plan) lines) where
  abbrev runs : PlacedLine → Bool
  runs p = runs_between from to p.line

  -- what holds of the running lines of the plan holds of the placed ones
  placed_in : (P : PlanLine → Type 0) (n : ℕ) (ls : Plan) → AllByRecursion P (filter (runs_between from to) ls) → AllByRecursion (λ p. P p.line) (filter runs (map placed (enumerate_from n ls)))
  placed_in P n [] h = tt
  placed_in P n (l ∷ ls) h = go (runs_between from to l) h (placed_in P (n + 1) ls)
    where
      go : (b : Bool) → AllByRecursion P (cond b (l ∷ filter (runs_between from to) ls) (filter (runs_between from to) ls)) → (AllByRecursion P (filter (runs_between from to) ls) → AllByRecursion (λ p. P p.line) (filter runs (map placed (enumerate_from (n + 1) ls))))
          → AllByRecursion (λ p. P p.line) (cond b (placed (n, l) ∷ filter runs (map placed (enumerate_from (n + 1) ls))) (filter runs (map placed (enumerate_from (n + 1) ls))))
      go true k r = (k.0, r k.1)
      go false k r = r k

  placed_out : (P : PlanLine → Type 0) (n : ℕ) (ls : Plan) → AllByRecursion (λ p. P p.line) (filter runs (map placed (enumerate_from n ls))) → AllByRecursion P (filter (runs_between from to) ls)
  placed_out P n [] h = tt
  placed_out P n (l ∷ ls) h = go (runs_between from to l) h (placed_out P (n + 1) ls)
    where
      go : (b : Bool) → AllByRecursion (λ p. P p.line) (cond b (placed (n, l) ∷ filter runs (map placed (enumerate_from (n + 1) ls))) (filter runs (map placed (enumerate_from (n + 1) ls)))) → (AllByRecursion (λ p. P p.line) (filter runs (map placed (enumerate_from (n + 1) ls))) → AllByRecursion P (filter (runs_between from to) ls))
          → AllByRecursion P (cond b (l ∷ filter (runs_between from to) ls) (filter (runs_between from to) ls))
      go true k r = (k.0, r k.1)
      go false k r = r k

  sorted_in : (P : PlanLine → Type 0) → AllByRecursion P (filter (runs_between from to) plan) → AllByRecursion (λ p. P p.line) (filter runs lines)
  sorted_in P h = (same-reordered (λ p. P p.line) (filter runs (placed_lines plan)) (filter runs lines) (filter_reordered runs (placed_lines plan) lines listed)).0 (placed_in P 0 plan h)

  sorted_out : (P : PlanLine → Type 0) → AllByRecursion (λ p. P p.line) (filter runs lines) → AllByRecursion P (filter (runs_between from to) plan)
  sorted_out P h = placed_out P 0 plan ((same-reordered (λ p. P p.line) (filter runs (placed_lines plan)) (filter runs lines) (filter_reordered runs (placed_lines plan) lines listed)).1 h)

  module _ (s u : State) where
    abbrev forms : PlanLine → List LinearForm
    forms l = (action_of task l.action).over_all.comparisons

    pub over_all_in : Defined (flat_map (over_all_values task s) (filter runs lines)) → Defined (flat_map (over_all_values task u) (filter runs lines)) → Defined (over_all_reckoned task plan from to s u)
    over_all_in a b = each-flat_in (IsDefined wide_limit) (λ l. flat_map (both_ends s u) (forms l)) (filter (runs_between from to) plan) (sorted_out (λ l. Defined (flat_map (both_ends s u) (forms l)))
        (all_both (λ p. Defined (over_all_values task s p)) (λ p. Defined (over_all_values task u p)) (λ p. Defined (flat_map (both_ends s u) (forms p.line))) (filter runs lines) (λ p x y. ends_in s u (forms p.line) x y)
        (all_of_flat_map (IsDefined wide_limit) (over_all_values task s) (filter runs lines) a) (all_of_flat_map (IsDefined wide_limit) (over_all_values task u) (filter runs lines) b)))

    abbrev each_line : Defined (over_all_reckoned task plan from to s u) → AllByRecursion (λ p. Defined (flat_map (both_ends s u) (forms p.line))) (filter runs lines)
    each_line d = sorted_in (λ l. Defined (flat_map (both_ends s u) (forms l))) (all_of_flat_map (IsDefined wide_limit) (λ l. flat_map (both_ends s u) (forms l)) (filter (runs_between from to) plan) d)

    pub over_all_first : Defined (over_all_reckoned task plan from to s u) → Defined (flat_map (over_all_values task s) (filter runs lines))
    over_all_first d = each-flat_in (IsDefined wide_limit) (over_all_values task s) (filter runs lines) (all_map (λ p. Defined (flat_map (both_ends s u) (forms p.line))) (λ p. Defined (over_all_values task s p)) (filter runs lines) (λ p x. first_end s u (forms p.line) x) (each_line d))

    pub over_all_second : Defined (over_all_reckoned task plan from to s u) → Defined (flat_map (over_all_values task u) (filter runs lines))
    over_all_second d = each-flat_in (IsDefined wide_limit) (over_all_values task u) (filter runs lines) (all_map (λ p. Defined (flat_map (both_ends s u) (forms p.line))) (λ p. Defined (over_all_values task u p)) (filter runs lines) (λ p x. second_end s u (forms p.line) x) (each_line d))

-- ---- all that belongs to a happening

module _ (task : TaskParts) (rules : Rules) (plan : Plan) (k : ℕ) where
  abbrev reads : List Reckoning
  reads = flat_map (read_reckoned task (state_before task plan k)) (steps_at task plan (time_of task plan k))

  abbrev late : List Reckoning
  late = Sum (time_of task plan k) rules.epsilon ∷ []

  abbrev overs : List Reckoning
  overs = over_all_reckoned task plan (time_of task plan k) (time_of task plan (suc k)) (state_after task plan k) (state_before task plan (suc k))

  module _ (h : suc k < count task plan) where
    overs-are : (if nat_lt (k + 1) (count task plan) then over_all_reckoned task plan (time_of task plan k) (time_of task plan (k + 1)) (state_after task plan k) (state_before task plan (k + 1)) else []) ≡ overs
    overs-are = ap (λ j. if nat_lt j (count task plan) then over_all_reckoned task plan (time_of task plan k) (time_of task plan j) (state_after task plan k) (state_before task plan j) else []) (add-one k)
        ∙ ap (λ b. if b then overs else []) (lt_in (suc k) (count task plan) h)

    whole-is : whole_at task rules plan k ≡ reads ++ effects_at task plan k ++ late ++ move_at task plan k ++ overs
    whole-is = ap (λ l. reads ++ effects_at task plan k ++ late ++ move_at task plan k ++ l) overs-are

    pub whole_in : Defined (reads ++ effects_at task plan k ++ late) → Defined (move_at task plan k) → Defined overs → Defined (whole_at task rules plan k)
    whole_in a b c = subst Defined (sym whole-is) (append-in (reads ++ effects_at task plan k ++ late ++ move_at task plan k) overs (append-in (reads ++ effects_at task plan k ++ late) (move_at task plan k) a b) c)

    pub whole_visit : Defined (whole_at task rules plan k) → Defined (reads ++ effects_at task plan k ++ late)
    whole_visit d = defined_left (reads ++ effects_at task plan k ++ late) (move_at task plan k) (defined_left (reads ++ effects_at task plan k ++ late ++ move_at task plan k) overs (subst Defined whole-is d))

    pub whole_move : Defined (whole_at task rules plan k) → Defined (move_at task plan k)
    whole_move d = defined_right (reads ++ effects_at task plan k ++ late) (move_at task plan k) (defined_left (reads ++ effects_at task plan k ++ late ++ move_at task plan k) overs (subst Defined whole-is d))

    pub whole_overs : Defined (whole_at task rules plan k) → Defined overs
    whole_overs d = defined_right (reads ++ effects_at task plan k ++ late ++ move_at task plan k) overs (subst Defined whole-is d)

  module _ (h : suc k ≡ count task plan) where
    not_later : nat_lt (k + 1) (count task plan) ≡ false
    not_later = go (nat_lt (k + 1) (count task plan)) refl
      where
        go : (b : Bool) → nat_lt (k + 1) (count task plan) ≡ b → b ≡ false
        go true e = absurd (let l : k + 1 < count task plan = lt_out (k + 1) (count task plan) e in omega (arith, l, h))
        go false e = refl

    last-is : whole_at task rules plan k ≡ reads ++ effects_at task plan k ++ late ++ [] ++ []
    last-is = ap (λ b. reads ++ effects_at task plan k ++ late ++ (if b then move_to task plan k (time_of task plan (k + 1)) else []) ++ (if b then over_all_reckoned task plan (time_of task plan k) (time_of task plan (k + 1)) (state_after task plan k) (state_before task plan (k + 1)) else [])) not_later

    pub last_in : Defined (reads ++ effects_at task plan k ++ late) → Defined (whole_at task rules plan k)
    last_in d = subst Defined (sym last-is) (append-in (reads ++ effects_at task plan k ++ late ++ []) [] (append-in (reads ++ effects_at task plan k ++ late) [] d tt) tt)

    pub last_out : Defined (whole_at task rules plan k) → Defined (reads ++ effects_at task plan k ++ late)
    last_out d = defined_left (reads ++ effects_at task plan k ++ late) [] (defined_left (reads ++ effects_at task plan k ++ late ++ []) [] (subst Defined last-is d))

  -- the sum with epsilon belongs to it
  pub late_out : Defined (whole_at task rules plan k) → Defined late
  late_out d = defined_right (reads ++ effects_at task plan k) late (defined_left (reads ++ effects_at task plan k ++ late) (move_at task plan k) (defined_left (reads ++ effects_at task plan k ++ late ++ move_at task plan k)
      (if nat_lt (k + 1) (count task plan) then over_all_reckoned task plan (time_of task plan k) (time_of task plan (k + 1)) (state_after task plan k) (state_before task plan (k + 1)) else []) d))

  abbrev overs_if : List Reckoning
  overs_if = if nat_lt (k + 1) (count task plan) then over_all_reckoned task plan (time_of task plan k) (time_of task plan (k + 1)) (state_after task plan k) (state_before task plan (k + 1)) else []

  -- and so do its effects and the move to the next
  pub effects_out : Defined (whole_at task rules plan k) → Defined (effects_at task plan k)
  effects_out d = defined_right reads (effects_at task plan k) (defined_left (reads ++ effects_at task plan k) late (defined_left (reads ++ effects_at task plan k ++ late) (move_at task plan k) (defined_left (reads ++ effects_at task plan k ++ late ++ move_at task plan k) overs_if d)))

  pub move_out : Defined (whole_at task rules plan k) → Defined (move_at task plan k)
  move_out d = defined_right (reads ++ effects_at task plan k ++ late) (move_at task plan k) (defined_left (reads ++ effects_at task plan k ++ late ++ move_at task plan k) overs_if d)
