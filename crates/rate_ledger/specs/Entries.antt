-- Believed: value forms: what a fluent has before and after each step of a list, as a form over the times of the steps.
-- After COLIN (2012), whose linear program has a variable for the time of each step.
use Rattle.std.specs.Prelude.{ℕ, zero, suc, ◌+◌, ◌==◌, if◌then◌else◌, List, [], ◌∷◌, map, length, take, drop, slice_index, Option, Some, None, option_to_list}
use Rattle.std.specs.List.{flat_map}
use Rattle.rational.specs.Rational.{ℚ, zeroℚ, oneℚ, neg_ℚ}
use Rattle.task_types.specs.declared.actions.Snap.{Snap}
use Rattle.task_types.specs.declared.actions.SnapKind.{SnapKind}
use Rattle.task_types.specs.declared.actions.SnapKind.TheVariants.{Start, End, Instant, Timed}
use Rattle.task_types.specs.declared.conditions.Amount.{Amount}
use Rattle.task_types.specs.declared.parts.TaskParts.{TaskParts}
use Rattle.task_types.specs.Tests.{total}
use Rattle.task_types.specs.Sets.{is_in}
use Rattle.task_types.specs.Plan.{action_of, snap_of}
use Rattle.task_types.specs.Course.{initial, entries_of}
use Rattle.task_types.specs.Touch.{bent_fluents}
use Rattle.task_types.specs.Order.{running}
use Rattle.task_types.specs.Blocking.{start_number}
use Rattle.ordering.specs.Along.{changes}
use Rattle.rate_ledger.specs.Sums.{FormSum, Number, PlusTerm, PlusScaled, put}

abbrev pub snap_at : TaskParts → List ℕ → ℕ → Snap
snap_at task steps k = snap_of task (slice_index steps k)

-- ---- variables: step k is variable k; after the steps come the ends of the actions that still run, in the order of
-- their starts

-- the place of a number in a list
abbrev pub place_of : ℕ → List ℕ → ℕ
place_of a [] = 0
place_of a (b ∷ bs) = if b == a then 0 else suc (place_of a bs)

-- the first step, from number n on, that ends an action
abbrev pub first_end : TaskParts → ℕ → ℕ → List ℕ → Option ℕ
first_end task a n [] = None
first_end task a n (s ∷ ss) = if is_in s (option_to_list (action_of task a).end) then Some n else first_end task a (suc n) ss

abbrev pub or_else : Option ℕ → ℕ → ℕ
or_else None n = n
or_else (Some m) n = m

-- the variable of the end of an action that step i starts
abbrev pub end_variable : TaskParts → List ℕ → ℕ → ℕ → ℕ
end_variable task steps i a = or_else (first_end task a (suc i) (drop (suc i) steps)) (length steps + place_of a (running task steps))

-- the step that started the action of a start or an end, with that action
abbrev pub started_by : TaskParts → List ℕ → ℕ → SnapKind → List ℕ → List (ℕ × ℕ)
started_by task steps k Start own = map (λ a. (k, a)) own
started_by task steps k End own = map (λ a. (start_number task a 0 (take k steps) 0, a)) own
started_by task steps k Instant own = []
started_by task steps k Timed own = []

abbrev pub own_start : TaskParts → List ℕ → ℕ → List (ℕ × ℕ)
own_start task steps k = started_by task steps k (snap_at task steps k).kind (option_to_list (snap_at task steps k).action)

-- ---- entries

-- Of a fluent: its form after the last step that changed it, that step (none at first), and its rate since.
pub record Entry : Type 0 where
  pub form : FormSum
  pub since : Option ℕ
  pub rate : ℚ

-- an entry's form moved to the time of a variable: the rate times the later time, then the rate times the earlier, taken away
abbrev pub moved_from : FormSum → ℚ → Option ℕ → ℕ → FormSum
moved_from form rate None v = form
moved_from form rate (Some s) v = PlusTerm (PlusTerm form v rate) s (neg_ℚ rate)

abbrev pub moved_sum : Entry → ℕ → FormSum
moved_sum e v = moved_from e.form e.rate e.since v

-- An amount is its form over the values, plus its factor times the duration: the end's variable less the start's.
abbrev pub with_duration : TaskParts → List ℕ → ℚ → List (ℕ × ℕ) → FormSum → FormSum
with_duration task steps d [] sum = sum
with_duration task steps d (own ∷ rest) sum = PlusTerm (PlusTerm sum (end_variable task steps own.0 own.1) d) own.0 (neg_ℚ d)

abbrev pub amount_sum : TaskParts → List ℕ → ℕ → (ℕ → FormSum) → Amount → FormSum
amount_sum task steps k values a = with_duration task steps a.duration (own_start task steps k) (put values a.form)

-- of several sums the last counts
abbrev pub last_sum : FormSum → List FormSum → FormSum
last_sum other [] = other
last_sum other (x ∷ xs) = last_sum x xs

-- sums added one by one
abbrev pub added_up : FormSum → List FormSum → FormSum
added_up sum [] = sum
added_up sum (x ∷ xs) = added_up (PlusScaled sum oneℚ x) xs

-- the rates on a fluent of the actions that run after the first n steps, in the order of their starts
abbrev pub running_rates : TaskParts → List ℕ → ℕ → ℕ → List ℚ
running_rates task steps n f = flat_map (λ a. entries_of f (snap_of task (action_of task a).start).rates) (running task (take n steps))

-- the form of a fluent after step k changed it, from the values before the step
abbrev pub changed_form : TaskParts → List ℕ → ℕ → (ℕ → FormSum) → ℕ → FormSum
changed_form task steps k values f =
    let s = snap_at task steps k in
    added_up (last_sum (values f) (map (amount_sum task steps k values) (entries_of f s.effect.assigns))) (map (amount_sum task steps k values) (entries_of f s.effect.increases))

abbrev pub changed_entry : TaskParts → List ℕ → ℕ → (ℕ → Entry) → ℕ → Entry
changed_entry task steps k before f = record {
  form = changed_form task steps k (λ g. moved_sum (before g) k) f;
  since = Some k;
  rate = if is_in f (bent_fluents task (snap_at task steps k)) then total (running_rates task steps (suc k) f) else (before f).rate;
}

-- the entries after the first n steps of a list
abbrev pub entries : TaskParts → List ℕ → ℕ → ℕ → Entry
entries task steps zero f = record { form = Number ((initial task).fluents f); since = None; rate = zeroℚ }
entries task steps (suc k) f = if changes task (snap_at task steps k) f then changed_entry task steps k (entries task steps k) f else entries task steps k f

-- What a fluent has before step k, after it, and at the end of a list after which no action runs.
unfoldable pub value_before : TaskParts → List ℕ → ℕ → ℕ → FormSum
value_before task steps k f = moved_sum (entries task steps k f) k

unfoldable pub value_after : TaskParts → List ℕ → ℕ → ℕ → FormSum
value_after task steps k f = if changes task (snap_at task steps k) f then (entries task steps (suc k) f).form else moved_sum (entries task steps k f) k

unfoldable pub value_end : TaskParts → List ℕ → ℕ → FormSum
value_end task steps f = (entries task steps (length steps) f).form
