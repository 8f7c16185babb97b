-- Believed: the rows of an ordering, step by step in the order of its list: links, moments, horizon, total time,
-- durations, conditions, over-all comparisons.
use Rattle.std.specs.Prelude.{ℕ, suc, Bool, true, false, not, ◌&&◌, ◌==◌, if◌then◌else◌, List, [], ◌∷◌, ◌++◌, map, length, take, slice_index, option_to_list}
use Rattle.std.specs.List.{list_any, filter, flat_map, enumerate_from}
use Rattle.rational.specs.Rational.{ℚ, zeroℚ, oneℚ, neg_ℚ}
use Rattle.exact_lin.specs.Forms.{LinearForm, Terms}
use Rattle.task_types.specs.declared.actions.Bound.{Bound}
use Rattle.task_types.specs.declared.actions.SnapKind.{SnapKind}
use Rattle.task_types.specs.declared.actions.SnapKind.TheVariants.{Start, End, Instant, Timed}
use Rattle.task_types.specs.declared.orderings.Link.{Link}
use Rattle.task_types.specs.declared.orderings.Link.TheVariants.{Free, Weak, Apart}
use Rattle.task_types.specs.declared.parts.Rules.{Rules}
use Rattle.task_types.specs.declared.parts.TaskParts.{TaskParts}
use Rattle.task_types.specs.Sets.{is_in, numbers}
use Rattle.task_types.specs.Plan.{action_of, snap_of}
use Rattle.task_types.specs.Clash.{form_fluents}
use Rattle.task_types.specs.Touch.{is_timed}
use Rattle.task_types.specs.Order.{Order, link, running}
use Rattle.task_types.specs.Blocking.{start_number}
use Rattle.ordering.specs.Along.{changes}
use Rattle.rate_ledger.specs.Sums.{FormSum, PlusTerm, form_of, put}
use Rattle.rate_ledger.specs.Entries.{snap_at, own_start, value_before, value_after}
use Rattle.rate_ledger.specs.Reckoned.{Made, OfForm, step_made}
use Rattle.lp_rows.specs.declared.origins.Origin.{Origin}
pub use Rattle.lp_rows.specs.declared.rows.OriginRow.{OriginRow}
use Rattle.lp_rows.specs.declared.origins.Origin.TheVariants as origin

-- A comparison that makes a row: a sum that is to be at least 0, or at most 0, and the row's origin.
pub record Compared : Type 0 where
  pub sum : FormSum
  pub at_least : Bool
  pub origin : Origin

abbrev pub negated : Terms → Terms
negated ts = map (λ t. (t.0, neg_ℚ t.1)) ts

-- A form that is at least 0 is the row `- terms ≤ constant`; one that is at most 0 is `terms ≤ - constant`.
abbrev pub compared_row : Compared → OriginRow
compared_row c =
    if c.at_least then record { terms = negated (form_of c.sum).terms; bound = (form_of c.sum).constant; origin = c.origin }
    else record { terms = (form_of c.sum).terms; bound = neg_ℚ (form_of c.sum).constant; origin = c.origin }

-- ---- 1: links

-- variable i comes before variable j, with this much between
abbrev pub before_row : ℕ → ℕ → ℚ → Origin → OriginRow
before_row i j room o = record { terms = (i, oneℚ) ∷ (j, neg_ℚ oneℚ) ∷ []; bound = neg_ℚ room; origin = o }

abbrev pub linked_row : Rules → Link → ℕ → ℕ → Origin → List OriginRow
linked_row rules Free i j o = []
linked_row rules Weak i j o = before_row i j zeroℚ o ∷ []
linked_row rules Apart i j o = before_row i j rules.epsilon o ∷ []

abbrev pub is_extra : Order → ℕ → ℕ → Bool
is_extra o i j = list_any (λ p. (p.0 == i) && (p.1 == j)) o.extra

abbrev pub link_row : TaskParts → Rules → Order → ℕ → ℕ → List OriginRow
link_row task rules o i j =
    if is_extra o i j then linked_row rules Apart i j (origin.Extra (suc i) (suc j))
    else linked_row rules (link task (snap_at task o.steps i) (snap_at task o.steps j)) i j (origin.Pair (suc i) (suc j))

abbrev pub link_rows : TaskParts → Rules → Order → ℕ → List OriginRow
link_rows task rules o j = flat_map (λ i. link_row task rules o i j) (numbers j)

-- ---- 2 to 4: a timed step's moment; a plan step's horizon and the total time

abbrev pub moments_of : TaskParts → ℕ → List ℚ
moments_of task s = map (λ m. m.0) (filter (λ m. m.1 == s) task.timed)

abbrev pub moment_rows : ℕ → ℚ → List OriginRow
moment_rows j t = record { terms = (j, oneℚ) ∷ []; bound = t; origin = origin.NoLater (suc j) } ∷ record { terms = (j, neg_ℚ oneℚ) ∷ []; bound = neg_ℚ t; origin = origin.NoEarlier (suc j) } ∷ []

abbrev pub horizon_row : Rules → ℕ → OriginRow
horizon_row rules j = record { terms = (j, oneℚ) ∷ []; bound = rules.horizon; origin = origin.Horizon (suc j) }

abbrev pub last_row : ℕ → ℕ → OriginRow
last_row last j = record { terms = (j, oneℚ) ∷ (last, neg_ℚ oneℚ) ∷ []; bound = zeroℚ; origin = origin.Last (suc j) }

abbrev pub placed_rows : TaskParts → Rules → ℕ → ℕ → ℕ → List OriginRow
placed_rows task rules last j s = if is_timed (snap_of task s).kind then flat_map (moment_rows j) (moments_of task s) else (horizon_row rules j ∷ last_row last j ∷ [])

-- ---- 5: durations

abbrev pub has_fluents : LinearForm → Bool
has_fluents form = elim form.terms [ [] ↦ false | t ∷ ts ↦ true ]

-- a bound over the values before the start, or before the step where it is read at the end; then the duration is
-- taken from it
abbrev pub bound_sum : TaskParts → List ℕ → ℕ → ℕ → ℕ → Bound → FormSum
bound_sum task steps start end j b =
    let read = if b.at_end && has_fluents b.form then j else start in
    PlusTerm (PlusTerm (put (value_before task steps read) b.form) end (neg_ℚ oneℚ)) start oneℚ

abbrev pub bound_compared : TaskParts → List ℕ → ℕ → ℕ → ℕ → ℕ × Bound → Compared
bound_compared task steps start end j b = record { sum = bound_sum task steps start end j b.1; at_least = not b.1.at_least; origin = origin.Duration (suc end) b.0 }

abbrev pub is_end : SnapKind → Bool
is_end Start = false
is_end End = true
is_end Instant = false
is_end Timed = false

abbrev pub duration_compared : TaskParts → List ℕ → ℕ → List Compared
duration_compared task steps j =
    if is_end (snap_at task steps j).kind then flat_map (λ own. map (bound_compared task steps own.0 j j) (enumerate_from 1 (action_of task own.1).bounds)) (own_start task steps j)
    else []

-- ---- 6: the step's own comparisons

abbrev pub own_origin : SnapKind → ℕ → ℕ → Origin
own_origin Start = origin.AtStart
own_origin End = origin.AtEnd
own_origin Instant = origin.AtStart
own_origin Timed = origin.AtStart

abbrev pub own_compared : TaskParts → List ℕ → ℕ → List Compared
own_compared task steps j =
    let s = snap_at task steps j in
    map (λ e. record { sum = put (value_before task steps j) e.1; at_least = true; origin = own_origin s.kind (suc j) e.0 }) (enumerate_from (suc (length s.condition.literals)) s.condition.comparisons)

-- ---- 7: over-all comparisons

-- the actions that run before an end, or after any other step
abbrev pub watching : TaskParts → List ℕ → ℕ → SnapKind → List ℕ
watching task steps j Start = running task (take (suc j) steps)
watching task steps j End = running task (take j steps)
watching task steps j Instant = running task (take (suc j) steps)
watching task steps j Timed = running task (take (suc j) steps)

-- whether a comparison is asked before a step, and after it: at the action's own start after it alone, at its own
-- end before it alone, else on both sides where the step changes a fluent of it
abbrev pub sides : SnapKind → Bool → Bool → List Bool
sides Start true changed = false ∷ []
sides End true changed = true ∷ []
sides Instant true changed = []
sides Timed true changed = []
sides kind false changed = if changed then true ∷ false ∷ [] else []

abbrev pub watched : TaskParts → List ℕ → ℕ → ℕ → ℕ → LinearForm → Bool → Compared
watched task steps j i n form before = record {
  sum = put (if before then value_before task steps j else value_after task steps j) form;
  at_least = true;
  origin = origin.Watch i n before (suc j);
}

abbrev pub watch_compared : TaskParts → List ℕ → ℕ → List Compared
watch_compared task steps j =
    let s = snap_at task steps j in
    flat_map (λ a. flat_map (λ e. map (watched task steps j (start_number task a 1 (take (suc j) steps) 0) e.0 e.1)
    (sides s.kind (is_in a (option_to_list s.action)) (list_any (changes task s) (form_fluents e.1))))
    (enumerate_from (suc (length (action_of task a).over_all.literals)) (action_of task a).over_all.comparisons))
    (watching task steps j s.kind)

-- ---- all of a step

-- the comparisons of step j, in the order of their rows
abbrev pub step_compared : TaskParts → List ℕ → ℕ → List Compared
step_compared task steps j = duration_compared task steps j ++ own_compared task steps j ++ watch_compared task steps j

abbrev pub step_rows : TaskParts → Rules → Order → ℕ → ℕ → List OriginRow
step_rows task rules o last j = link_rows task rules o j ++ placed_rows task rules last j (slice_index o.steps j) ++ map compared_row (step_compared task o.steps j)

-- what belongs to step j: its effects and values, then its comparisons
abbrev pub step_reckoned : TaskParts → List ℕ → ℕ → List Made
step_reckoned task steps j = step_made task steps j ++ map (λ c. OfForm c.sum) (step_compared task steps j)
