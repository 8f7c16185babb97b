-- Believed: what every task keeps: ids in range, numbered snap actions, and what grounding promises of each part.
use Rattle.std.specs.Prelude.{ℕ, ◌+◌, Bool, true, false, not, ◌&&◌, ◌||◌, ◌==◌, nat_lt, nat_le, if◌then◌else◌, IsTrue, List, [], ◌∷◌, map, length, sum, Option, Some, None, is_none, is_some}
use Rattle.std.specs.List.{list_all, list_any}
use Rattle.std.specs.Str.{bytes_eq}
use Rattle.std.specs.Char.{is_ascii_uppercase}
use Rattle.basics.specs.Texts.{name_limit, is_name}
use Rattle.rational.specs.Rational.{ℚ, zeroℚ}
use Rattle.exact_lin.specs.Forms.{LinearForm}
use Rattle.task_types.specs.declared.actions.Action.{Action}
use Rattle.task_types.specs.declared.actions.Schema.{Schema}
use Rattle.task_types.specs.declared.actions.Snap.{Snap}
use Rattle.task_types.specs.declared.actions.SnapKind.{SnapKind}
use Rattle.task_types.specs.declared.actions.SnapKind.TheVariants.{Start, End, Instant, Timed}
use Rattle.task_types.specs.declared.conditions.Amount.{Amount}
use Rattle.task_types.specs.declared.conditions.Condition.{Condition}
use Rattle.task_types.specs.declared.conditions.Effect.{Effect}
use Rattle.task_types.specs.declared.constraints.Trail.{Trail}
use Rattle.task_types.specs.declared.costs.Piece.{Piece}
use Rattle.task_types.specs.declared.costs.Soft.{Soft}
use Rattle.task_types.specs.declared.costs.Soft.TheVariants as soft
use Rattle.task_types.specs.declared.formulas.FactTree.{FactTree, fold-FactTree}
use Rattle.task_types.specs.declared.formulas.FactTree.TheOpen.{FactTree-F}
use Rattle.task_types.specs.declared.parts.TaskParts.{TaskParts}
use Rattle.task_types.specs.Tests.{◌<?◌, ◌≤?◌, ◌=?◌}
use Rattle.task_types.specs.Sets.{are_distinct}
use Rattle.task_types.specs.Clash.{form_fluents, assigned_fluents}
use Rattle.task_types.specs.Touch.{is_timed, is_start_or_end}
use Rattle.task_types.specs.Trace.{at}

-- ---- sizes

-- the most entries of any list of a task
abbrev pub list_limit : ℕ
list_limit = 1048576

abbrev pub is_short : {A : Type 0} → List A → Bool
is_short xs = nat_le (length xs) list_limit

-- each number is below a count, and there are not too many
abbrev pub are_below : ℕ → List ℕ → Bool
are_below n xs = is_short xs && list_all (λ x. nat_lt x n) xs

-- ---- parts within the task

-- A form fits where its fluents are those of the task.
abbrev pub form_fits : TaskParts → LinearForm → Bool
form_fits task form = are_below (length task.fluents) (form_fluents form)

abbrev pub forms_fit : TaskParts → List LinearForm → Bool
forms_fit task forms = is_short forms && list_all (form_fits task) forms

-- A condition fits where its facts and fluents are those of the task.
abbrev pub condition_fits : TaskParts → Condition → Bool
condition_fits task c = are_below (length task.facts) (map (λ l. l.fact) c.literals) && forms_fit task c.comparisons

-- An amount fits where its form does, and it has no factor of a duration but at a start or an end.
abbrev pub amount_fits : TaskParts → SnapKind → Amount → Bool
amount_fits task kind a = form_fits task a.form && (is_start_or_end kind || (a.duration =? zeroℚ))

abbrev pub changes_fit : TaskParts → SnapKind → List (ℕ × Amount) → Bool
changes_fit task kind changes = are_below (length task.fluents) (map (λ e. e.0) changes) && list_all (λ e. amount_fits task kind e.1) changes

-- An effect fits where its facts, fluents and amounts do.
abbrev pub effect_fits : TaskParts → SnapKind → Effect → Bool
effect_fits task kind e = are_below (length task.facts) e.adds && are_below (length task.facts) e.deletes
    && changes_fit task kind e.assigns && changes_fit task kind e.increases

abbrev pub is_empty : {A : Type 0} → List A → Bool
is_empty [] = true
is_empty (x ∷ xs) = false

-- A timed snap action asks nothing and changes facts alone.
abbrev pub changes_facts_alone : Snap → Bool
changes_facts_alone s = is_empty s.condition.literals && is_empty s.condition.comparisons && is_empty s.effect.assigns && is_empty s.effect.increases

abbrev pub is_start : SnapKind → Bool
is_start Start = true
is_start End = false
is_start Instant = false
is_start Timed = false

abbrev pub is_action : TaskParts → Option ℕ → Bool
is_action task None = true
is_action task (Some a) = nat_lt a (length task.actions)

-- A snap action fits where its parts do, it assigns no fluent twice, it has rates only as a start, it changes facts
-- alone where it is timed, and its action is one of the task.
abbrev pub snap_fits : TaskParts → Snap → Bool
snap_fits task s = condition_fits task s.condition && effect_fits task s.kind s.effect
    && are_distinct (assigned_fluents s)
    && are_below (length task.fluents) (map (λ r. r.0) s.rates)
    && (is_start s.kind || is_empty s.rates)
    && (not (is_timed s.kind) || changes_facts_alone s)
    && is_action task s.action

-- the most comparisons of an over-all condition
abbrev pub watch_limit : ℕ
watch_limit = 8

-- ---- names

-- no byte is a letter in upper case
abbrev pub is_lower_case : List ℕ → Bool
is_lower_case text = list_all (λ b. not (is_ascii_uppercase b)) text

-- a name of the task: a name in lower case, and not too long
abbrev pub is_task_name : List ℕ → Bool
is_task_name n = is_name n && is_lower_case n && nat_le (length n) name_limit

-- each is such a name, and no two are the same
abbrev pub are_names : List (List ℕ) → Bool
are_names [] = true
are_names (n ∷ ns) = is_task_name n && not (list_any (bytes_eq n) ns) && are_names ns

-- the arguments are as many as the parameters, and each is one of the objects that fit its parameter
abbrev pub arguments_fit : List ℕ → List (List ℕ) → Bool
arguments_fit [] [] = true
arguments_fit [] (p ∷ ps) = false
arguments_fit (a ∷ rest) [] = false
arguments_fit (a ∷ rest) (p ∷ ps) = list_any (λ o. o == a) p && arguments_fit rest ps

-- A schema fits where its parameters name objects of the task.
abbrev pub schema_fits : TaskParts → Schema → Bool
schema_fits task s = is_short s.params && list_all (are_below (length task.objects)) s.params

-- ---- actions

-- An action is an instance of a schema by its name, by being durative or not, and by its arguments.
abbrev pub is_instance : Action → Schema → Bool
is_instance a s = bytes_eq a.name s.name && (if s.durative then is_some a.end else is_none a.end) && arguments_fit a.args s.params

abbrev pub action_fits : TaskParts → Action → Bool
action_fits task a = list_any (is_instance a) task.schemas
    && is_short a.bounds && list_all (λ b. form_fits task b.form) a.bounds
    && condition_fits task a.over_all && nat_le (length a.over_all.comparisons) watch_limit

-- how many snap actions an action has
abbrev pub snap_count : Action → ℕ
snap_count a = if is_some a.end then 2 else 1

abbrev pub snap_total : List Action → ℕ
snap_total actions = sum (map snap_count actions)

abbrev pub same_kind : SnapKind → SnapKind → Bool
same_kind Start Start = true
same_kind End End = true
same_kind Instant Instant = true
same_kind Timed Timed = true
same_kind _ _ = false

abbrev pub is_number : Option ℕ → ℕ → Bool
is_number None n = false
is_number (Some m) n = m == n

-- snap action n is of this kind and of action a
abbrev pub is_snap_of : TaskParts → ℕ → SnapKind → ℕ → Bool
is_snap_of task n kind a = at task.snaps n (λ s. same_kind s.kind kind && is_number s.action a)

abbrev pub has_snaps : TaskParts → ℕ → ℕ → Option ℕ → Bool
has_snaps task n a None = is_snap_of task n Instant a
has_snaps task n a (Some e) = e == n + 1 && is_snap_of task n Start a && is_snap_of task e End a

-- The actions from number a on have their snap actions one after the other from number n on, a start before its end.
abbrev pub are_numbered : TaskParts → ℕ → ℕ → List Action → Bool
are_numbered task n a [] = true
are_numbered task n a (x ∷ xs) = x.start == n && has_snaps task n a x.end && are_numbered task (n + snap_count x) (a + 1) xs

-- The timed steps are numbered one after the other from number n on.
abbrev pub are_timed : TaskParts → ℕ → List (ℚ × ℕ) → Bool
are_timed task n [] = true
are_timed task n (t ∷ ts) = t.1 == n && at task.snaps n (λ s. is_timed s.kind && is_none s.action) && are_timed task (n + 1) ts

-- Each moment is above the one before it.
abbrev pub moments_ascend : ℚ → List (ℚ × ℕ) → Bool
moments_ascend t [] = true
moments_ascend t (u ∷ us) = (t <? u.0) && moments_ascend u.0 us

-- the most timed steps
abbrev pub timed_limit : ℕ
timed_limit = 64

-- ---- formulas, constraints and costs

abbrev pub parts_fit : ℕ → FactTree-F Bool → Bool
parts_fit n FactTree-F.True = true
parts_fit n (FactTree-F.Is l) = nat_lt l.fact n
parts_fit n (FactTree-F.Not part) = part
parts_fit n (FactTree-F.And parts) = is_short parts && list_all (λ part. part) parts
parts_fit n (FactTree-F.Or parts) = is_short parts && list_all (λ part. part) parts

-- A formula fits where its facts are those of the task.
unfoldable pub tree_fits : TaskParts → FactTree → Bool
tree_fits task formula = fold-FactTree Bool (parts_fit (length task.facts)) formula

abbrev pub trail_fits : TaskParts → Trail → Bool
trail_fits task c = tree_fits task c.first && tree_fits task c.second

-- the most pieces of a time cost
abbrev pub piece_limit : ℕ
piece_limit = 16

-- Each piece ends after the one before it and begins no lower than it ended, and no piece falls.
abbrev pub pieces_rise : ℚ → ℚ → List Piece → Bool
pieces_rise until to [] = true
pieces_rise until to (p ∷ ps) = (until <? p.until) && (to ≤? p.from) && (p.from ≤? p.to) && pieces_rise p.until p.to ps

-- A soft term fits where its parts do and its weight is at least 0; a time cost in three numbers has 0 ≤ soft < hard
-- and 0 ≤ top, one in pieces has 1 to 16 of them, which rise.
abbrev pub soft_fits : TaskParts → Soft → Bool
soft_fits task (soft.Trail c weight) = trail_fits task c && (zeroℚ ≤? weight)
soft_fits task (soft.Goal formula forms weight) = tree_fits task formula && forms_fit task forms && (zeroℚ ≤? weight)
soft_fits task (soft.Late formula c weight) = tree_fits task formula && (zeroℚ ≤? c.soft) && (c.soft <? c.hard) && (zeroℚ ≤? c.top) && (zeroℚ ≤? weight)
soft_fits task (soft.Pieces formula ps weight) = tree_fits task formula && nat_lt 0 (length ps) && nat_le (length ps) piece_limit && pieces_rise zeroℚ zeroℚ ps && (zeroℚ ≤? weight)

-- the most hard constraints and soft terms together
abbrev pub term_limit : ℕ
term_limit = 512

-- A task is well made where its parts fit together.
pub record IsWellMade (task : TaskParts) : Type 0 where
  pub objects : IsTrue (is_short task.objects && are_names task.objects)
  pub schemas : IsTrue (is_short task.schemas && are_names (map (λ s. s.name) task.schemas) && list_all (schema_fits task) task.schemas)
  pub facts : IsTrue (is_short task.facts && list_all (λ f. is_short f.name && are_below (length task.objects) f.args) task.facts)
  pub fluents : IsTrue (is_short task.fluents && list_all (λ f. is_short f.name && are_below (length task.objects) f.args) task.fluents)
  pub actions : IsTrue (is_short task.actions && list_all (action_fits task) task.actions)
  pub snaps : IsTrue (is_short task.snaps && list_all (snap_fits task) task.snaps)
  pub numbered : IsTrue (length task.snaps == snap_total task.actions + length task.timed && are_numbered task 0 0 task.actions)
  pub timed : IsTrue (nat_le (length task.timed) timed_limit && are_timed task (snap_total task.actions) task.timed && moments_ascend zeroℚ task.timed)
  pub goal : IsTrue (condition_fits task task.goal)
  pub terms : IsTrue (nat_le (length task.hard + length task.soft) term_limit && list_all (trail_fits task) task.hard && list_all (soft_fits task) task.soft)
  pub metric : IsTrue ((zeroℚ ≤? task.metric.last) && form_fits task task.metric.fluents && (task.metric.fluents.constant =? zeroℚ))
