-- Private: rows of comparisons, as the functions inside push them.
use Rattle.std.specs.Prelude.{ℕ, suc, ◌≡◌, ◌++◌, ◌∷◌, [], Bool, true, false, if◌then◌else◌, Result, List, map, length, take, option_to_list}
use Rattle.std.specs.List.{list_any, flat_map, enumerate_from, AllByRecursion}
use Rattle.rational.specs.Rational.{ℚ, neg_ℚ}
use Rattle.exact_lin.specs.Reckoning.{wide_limit}
use Rattle.exact_lin.specs.Forms.{LinearForm, plus_term, CanAddTerm}
use Rattle.exact_lin.specs.declared.faults.FormFault.{FormFault}
use Rattle.task_types.specs.declared.actions.SnapKind.{SnapKind}
use Rattle.task_types.specs.declared.actions.SnapKind.TheVariants.{Start, End, Instant, Timed}
use Rattle.task_types.specs.declared.orderings.Link.TheVariants.{Apart}
use Rattle.task_types.specs.declared.parts.Rules.{Rules}
use Rattle.task_types.specs.declared.parts.TaskParts.{TaskParts}
use Rattle.task_types.specs.Sets.{is_in}
use Rattle.task_types.specs.Plan.{action_of}
use Rattle.task_types.specs.Order.{link}
use Rattle.task_types.specs.Clash.{form_fluents}
use Rattle.task_types.specs.Blocking.{start_number}
use Rattle.ordering.specs.Along.{changes}
use Rattle.rate_ledger.specs.Answers.{Gives}
use Rattle.rate_ledger.specs.Sums.{CanMake, put}
use Rattle.rate_ledger.specs.Entries.{snap_at, value_before}
use Rattle.lp_rows.specs.declared.origins.Origin.{Origin}
use Rattle.lp_rows.specs.declared.origins.Origin.TheVariants as origin
use Rattle.lp_rows.specs.declared.rows.OriginRow.{OriginRow}
use Rattle.lp_rows.specs.StepRows.{Compared, linked_row, negated, compared_row, own_origin, sides, watched}

-- the row of a form that is to be at least 0, or at most 0
abbrev pub row_of : LinearForm → Bool → Origin → OriginRow
row_of form at_least o =
    if at_least then record { terms = negated form.terms; bound = form.constant; origin = o }
    else record { terms = form.terms; bound = neg_ℚ form.constant; origin = o }

-- each of their sums can be made
abbrev pub CanCompare : List Compared → Type 0
CanCompare cs = AllByRecursion (λ c. CanMake c.sum) cs

-- where they can be compared, their rows are put at the end of others
abbrev pub Pushes : Result (Unit {0}) FormFault → (old new : List OriginRow) → List Compared → Type 0
Pushes result old new cs = Gives result (CanCompare cs) (λ _. new ≡ old ++ map compared_row cs)

-- ---- the comparisons of a step, one by one

abbrev pub own_of : TaskParts → List ℕ → ℕ → ℕ × LinearForm → Compared
own_of task steps j e = record { sum = put (value_before task steps j) e.1; at_least = true; origin = own_origin (snap_at task steps j).kind (suc j) e.0 }

-- whether a comparison is asked before a step, and after it
abbrev pub asked_before : SnapKind → (own changed : Bool) → Bool
asked_before Start own changed = if own then false else changed
asked_before End own changed = if own then true else changed
asked_before Instant own changed = if own then false else changed
asked_before Timed own changed = if own then false else changed

abbrev pub asked_after : SnapKind → (own changed : Bool) → Bool
asked_after Start own changed = if own then true else changed
asked_after End own changed = if own then false else changed
asked_after Instant own changed = if own then false else changed
asked_after Timed own changed = if own then false else changed

abbrev pub asked_sides : (before after : Bool) → List Bool
asked_sides before after = (if before then true ∷ [] else []) ++ (if after then false ∷ [] else [])

-- a comparison of an action that runs, on each side on which it is asked
abbrev pub watch_of : TaskParts → List ℕ → ℕ → ℕ → Bool → ℕ × LinearForm → List Compared
watch_of task steps j i own e =
    let s = snap_at task steps j in
    map (watched task steps j i e.0 e.1) (sides s.kind own (list_any (changes task s) (form_fluents e.1)))

-- those of one action that runs, which step i started
abbrev pub action_watch : TaskParts → List ℕ → ℕ → ℕ → Bool → ℕ → List Compared
action_watch task steps j i own a = flat_map (watch_of task steps j i own) (enumerate_from (suc (length (action_of task a).over_all.literals)) (action_of task a).over_all.comparisons)

-- those of an action that runs at a step
abbrev pub running_watch : TaskParts → List ℕ → ℕ → ℕ → List Compared
running_watch task steps j a = action_watch task steps j (start_number task a 1 (take (suc j) steps) 0) (is_in a (option_to_list (snap_at task steps j).action)) a

-- ---- durations

-- a form less a factor times the time between two steps
abbrev pub less_duration : LinearForm → ℚ → ℕ → ℕ → LinearForm
less_duration form q start end = plus_term (plus_term form end (neg_ℚ q)) start q

abbrev pub CanTakeDuration : LinearForm → ℚ → ℕ → ℕ → Type 0
CanTakeDuration form q start end = CanAddTerm wide_limit form end (neg_ℚ q) × CanAddTerm wide_limit (plus_term form end (neg_ℚ q)) start q

-- ---- links

-- the row of two steps, of which it is known whether an extra pair names them
abbrev pub pair_row : TaskParts → Rules → List ℕ → ℕ → ℕ → Bool → List OriginRow
pair_row task rules steps i j extra =
    if extra then linked_row rules Apart i j (origin.Extra (suc i) (suc j))
    else linked_row rules (link task (snap_at task steps i) (snap_at task steps j)) i j (origin.Pair (suc i) (suc j))
