-- Believed: the full program of a closed ordering, under decisions, and the prefix program of a list.
use Rattle.std.specs.Prelude.{ℕ, zero, suc, ◌+◌, true, not, ◌||◌, IsTrue, List, [], ◌∷◌, ◌++◌, map, length, slice_index_or, Option, Some, None, option_to_list, fold}
use Rattle.std.specs.List.{filter, flat_map, enumerate_from, zip}
use Rattle.rational.specs.Rational.{ℚ, zeroℚ, oneℚ, ◌+ℚ◌}
use Rattle.rational.specs.Rows.{Row}
use Rattle.basics.specs.Duties.{Duty, AllMet, IsFirstUnmet}
use Rattle.exact_lin.specs.Forms.{coefficient, values_of}
use Rattle.cert_core.specs.Programs.{Program}
use Rattle.cert_core.specs.Soft.{SoftProgram, Decisions}
use Rattle.task_types.specs.declared.actions.Bound.{Bound}
use Rattle.task_types.specs.declared.constraints.Trail.{Trail}
use Rattle.task_types.specs.declared.constraints.TrailKind.{TrailKind}
use Rattle.task_types.specs.declared.constraints.TrailKind.TheVariants.{Within}
use Rattle.task_types.specs.declared.parts.Rules.{Rules}
use Rattle.task_types.specs.declared.parts.TaskParts.{TaskParts}
use Rattle.task_types.specs.Tests.{total}
use Rattle.task_types.specs.Sets.{numbers}
use Rattle.task_types.specs.Plan.{action_of, snap_of}
use Rattle.task_types.specs.Order.{Order, link, running}
use Rattle.task_types.specs.Blocking.{start_number}
use Rattle.exact_lin.specs.Reckoning.{wide_limit}
use Rattle.exact_lin.specs.Reckonings.{sums, AreDefined as AreNumbersDefined}
use Rattle.rate_ledger.specs.Sums.{FormSum, Number, PlusNumber, PlusScaled, form_of, put}
use Rattle.rate_ledger.specs.Entries.{snap_at, value_end}
use Rattle.rate_ledger.specs.Reckoned.{Made, OfForm, AreDefined}
use Rattle.lp_rows.specs.declared.origins.Origin.TheVariants as origin
use Rattle.lp_rows.specs.declared.origins.Place.{Place}
use Rattle.lp_rows.specs.declared.origins.Place.TheVariants as place
use Rattle.lp_rows.specs.StepRows.{OriginRow, Compared, compared_row, linked_row, horizon_row, bound_compared, has_fluents, step_rows, step_reckoned}
use Rattle.lp_rows.specs.Terms.{SparseRow, first_held, Term, WithinTerm, Part, parts, terms_of_part, paid_of_part, part_reckoned, late_weights, WayOf, ways_of_term, term_reckoned, is_free, CanTell}

abbrev pub without_origin : OriginRow → SparseRow
without_origin r = record { terms = r.terms; bound = r.bound }

-- a row with one factor for each of some variables
abbrev pub dense : ℕ → SparseRow → Row
dense size r = record { factors = map (coefficient r.terms) (numbers size); bound = r.bound }

-- ---- the rows that need no decision

abbrev pub goal_compared : TaskParts → List ℕ → List Compared
goal_compared task steps = map (λ e. record { sum = put (value_end task steps) e.1; at_least = true; origin = origin.Goal e.0 }) (enumerate_from (suc (length task.goal.literals)) task.goal.comparisons)

abbrev pub soon_rows : ℕ → ℚ → Option ℕ → List OriginRow
soon_rows c t None = []
soon_rows c t (Some zero) = []
soon_rows c t (Some (suc k)) = record { terms = (k, oneℚ) ∷ []; bound = t; origin = origin.Constraint c } ∷ []

abbrev pub hard_rows : TaskParts → List ℕ → ℕ → TrailKind → Trail → List OriginRow
hard_rows task steps c Within h = soon_rows c h.moment (first_held task steps h.first)
hard_rows task steps c kind h = []

abbrev pub constraint_rows : TaskParts → List ℕ → List OriginRow
constraint_rows task steps = flat_map (λ h. hard_rows task steps h.0 h.1.kind h.1) (enumerate_from 1 task.hard)

-- the rows of a closed ordering that need no decision; the variable after the steps is the total time
unfoldable pub base_rows : TaskParts → Rules → Order → List OriginRow
base_rows task rules o = flat_map (step_rows task rules o (length o.steps)) (numbers (length o.steps)) ++ map compared_row (goal_compared task o.steps) ++ constraint_rows task o.steps

-- ---- terms, cost and base

abbrev pub soft_parts : TaskParts → List ℕ → List Part
soft_parts task steps = parts task steps (suc (length steps)) task.soft

unfoldable pub soft_terms : TaskParts → List ℕ → List Term
soft_terms task steps = flat_map terms_of_part (soft_parts task steps)

-- The metric over the step times: its constant, its form over the end values, and what the soft terms cost whatever
-- the times are.
unfoldable pub metric_sum : TaskParts → List ℕ → FormSum
metric_sum task steps = fold PlusNumber (fold (λ sum t. PlusScaled sum t.1 (value_end task steps t.0)) (Number task.metric.constant) task.metric.fluents.terms) (flat_map paid_of_part (soft_parts task steps))

abbrev pub variable_count : TaskParts → List ℕ → ℕ
variable_count task steps = suc (length steps) + length (flat_map late_weights (soft_parts task steps))

abbrev pub cost_factors : TaskParts → List ℕ → List ℚ
cost_factors task steps = map (coefficient (form_of (metric_sum task steps)).terms) (numbers (length steps)) ++ task.metric.last ∷ flat_map late_weights (soft_parts task steps)

-- ---- decisions

abbrev pub no_way : WayOf
no_way = record { rows = []; amount = None }

abbrev pub decided_way : Option ℕ → Term → WayOf
decided_way None term = no_way
decided_way (Some w) term = slice_index_or (ways_of_term term) w no_way

abbrev pub decided_ways : TaskParts → List ℕ → Decisions → List WayOf
decided_ways task steps made = map (λ d. decided_way d.0 d.1) (zip made (soft_terms task steps))

abbrev pub amounts : TaskParts → List ℕ → Decisions → List ℚ
amounts task steps made = flat_map (λ w. option_to_list w.amount) (decided_ways task steps made)

abbrev pub no_term : Term
no_term = WithinTerm 0 zeroℚ zeroℚ

-- The full program of a closed ordering.
abbrev pub full_program : TaskParts → Rules → Order → SoftProgram
full_program task rules o = record {
  ways = map (λ t. length (ways_of_term t)) (soft_terms task o.steps);
  costs = cost_factors task o.steps;
  rows = λ made. map (dense (variable_count task o.steps)) (map without_origin (base_rows task rules o) ++ flat_map (λ w. w.rows) (decided_ways task o.steps made));
  base = λ made. (form_of (metric_sum task o.steps)).constant +ℚ total (amounts task o.steps made);
  CanReckonBase = λ made. AreNumbersDefined wide_limit (sums (form_of (metric_sum task o.steps)).constant (amounts task o.steps made));
  IsFree = λ x t. IsTrue (is_free (slice_index_or (soft_terms task o.steps) t no_term) (values_of x));
  CanTellFree = λ x t. CanTell (slice_index_or (soft_terms task o.steps) t no_term) (values_of x);
}

-- ---- where a reckoning is undefined

-- what belongs to each place of a full program: the steps, the goal's comparisons, the terms, the metric
unfoldable pub full_places : TaskParts → Order → List (Place × List Made)
full_places task o = map (λ j. (place.Step (suc j), step_reckoned task o.steps j)) (numbers (length o.steps))
    ++ map (λ e. (place.Goal e.0, OfForm (put (value_end task o.steps) e.1) ∷ [])) (enumerate_from (suc (length task.goal.literals)) task.goal.comparisons)
    ++ map (λ t. (place.Term t.0, term_reckoned t.1)) (enumerate_from 0 (soft_terms task o.steps))
    ++ (place.Metric, OfForm (metric_sum task o.steps) ∷ flat_map part_reckoned (soft_parts task o.steps)) ∷ []

-- What is made at a place has to be defined; the fault is the place.
abbrev pub place_duties : List (Place × List Made) → List (Duty Place)
place_duties places = map (λ p. record { fault = p.0; Met = AreDefined p.1 }) places

-- every reckoning of every place is defined
abbrev pub AllDefined : List (Place × List Made) → Type 0
AllDefined places = AllMet (place_duties places)

-- the first place at which not every reckoning is defined
abbrev pub IsFirstUndefined : List (Place × List Made) → Place → Type 0
IsFirstUndefined places p = IsFirstUnmet (place_duties places) p

-- ---- prefix programs

abbrev pub without_pairs : List ℕ → Order
without_pairs steps = record { steps = steps; extra = [] }

abbrev pub end_of_action : TaskParts → ℕ → ℕ
end_of_action task a = elim (action_of task a).end [ None ↦ 0 | Some s ↦ s ]

-- the bounds of a pending end: those read at the start, and those that mention no fluent
abbrev pub pending_bounds : TaskParts → ℕ → List (ℕ × Bound)
pending_bounds task a = filter (λ b. not b.1.at_end || not (has_fluents b.1.form)) (enumerate_from 1 (action_of task a).bounds)

abbrev pub pending_compared : TaskParts → List ℕ → ℕ → ℕ → List Compared
pending_compared task steps v a = map (bound_compared task steps (start_number task a 0 steps 0) v v) (pending_bounds task a)

-- the rows of the pending end of a running action: its links with the steps of the list, its horizon, its bounds
abbrev pub pending_rows : TaskParts → Rules → List ℕ → ℕ × ℕ → List OriginRow
pending_rows task rules steps p =
    flat_map (λ i. linked_row rules (link task (snap_at task steps i) (snap_of task (end_of_action task p.1))) i p.0 (origin.Pair (suc i) (suc p.0))) (numbers (length steps))
    ++ horizon_row rules p.0 ∷ map compared_row (pending_compared task steps p.0 p.1)

-- the running actions, each with the variable of its pending end
abbrev pub pending : TaskParts → List ℕ → List (ℕ × ℕ)
pending task steps = enumerate_from (length steps) (running task steps)

unfoldable pub prefix_rows : TaskParts → Rules → List ℕ → List OriginRow
prefix_rows task rules steps =
    flat_map (step_rows task rules (without_pairs steps) (length steps + length (running task steps))) (numbers (length steps))
    ++ flat_map (pending_rows task rules steps) (pending task steps)

-- The prefix program of a list; its cost is 0.
abbrev pub prefix_program : TaskParts → Rules → List ℕ → Program
prefix_program task rules steps =
    let size = suc (length steps + length (running task steps)) in
    record { rows = map (dense size) (map without_origin (prefix_rows task rules steps)); costs = map (λ v. zeroℚ) (numbers size); base = zeroℚ }

unfoldable pub prefix_places : TaskParts → List ℕ → List (Place × List Made)
prefix_places task steps = map (λ j. (place.Step (suc j), step_reckoned task steps j)) (numbers (length steps))
    ++ map (λ p. (place.Step (suc p.0), map (λ c. OfForm c.sum) (pending_compared task steps p.0 p.1))) (pending task steps)
