-- Believed: the course along a list of steps, in the order of the list and at whatever times.
use Rattle.std.specs.Prelude.{ℕ, Bool, true, false, ◌≡◌, ◌||◌, List, [], ◌∷◌, fold}
use Rattle.std.specs.List.{list_any, flat_map, AllByRecursion}
use Rattle.rational.specs.Rational.{ℚ, zeroℚ, oneℚ, neg_ℚ, ◌+ℚ◌, ◌*ℚ◌, ◌-ℚ◌, ◌<ℚ◌, ◌≤ℚ◌}
use Rattle.task_types.specs.declared.actions.Snap.{Snap}
use Rattle.task_types.specs.declared.actions.SnapKind.{SnapKind}
use Rattle.task_types.specs.declared.actions.SnapKind.TheVariants.{Start, End, Instant, Timed}
use Rattle.task_types.specs.declared.conditions.Amount.{Amount}
use Rattle.task_types.specs.declared.parts.TaskParts.{TaskParts}
use Rattle.task_types.specs.Tests.{total}
use Rattle.task_types.specs.Sets.{is_in}
use Rattle.task_types.specs.State.{State}
use Rattle.task_types.specs.Plan.{Step, snap_of, action_of}
use Rattle.task_types.specs.Course.{entries_of, happen, initial}
use Rattle.task_types.specs.Clash.{assigned_fluents, written_fluents}
use Rattle.task_types.specs.Touch.{started_or_ended, bent_fluents, tokens}
use Rattle.task_types.specs.Order.{sets_apart, sets_order}

-- After some steps the facts are settled, and each fluent moves on a straight line: `level` at time 0, and `slope`
-- per unit of time.
pub record Carried : Type 0 where
  pub facts : ℕ → Bool
  pub level : ℕ → ℚ
  pub slope : ℕ → ℚ

-- where a time finds it
abbrev pub at_time : Carried → ℚ → State
at_time m t = record { facts = m.facts; fluents = λ f. m.level f +ℚ m.slope f *ℚ t }

-- A start turns the slope of a fluent by the rates of its action, and an end turns it back.
abbrev pub sign : SnapKind → ℚ
sign Start = oneℚ
sign End = neg_ℚ oneℚ
sign Instant = zeroℚ
sign Timed = zeroℚ

abbrev pub own_rates : TaskParts → Snap → List (ℕ × ℚ)
own_rates task s = flat_map (λ a. (snap_of task (action_of task a).start).rates) (started_or_ended s)

abbrev pub turn : TaskParts → Snap → ℕ → ℚ
turn task s f = sign s.kind *ℚ total (entries_of f (own_rates task s))

-- A step happens by itself at its time, turns the slopes, and leaves each fluent on the line with its new slope
-- through its new value.
unfoldable pub carry : TaskParts → Carried → Step → Carried
carry task m s = record {
  facts = (happen task (s ∷ []) (at_time m s.time)).facts;
  level = λ f. (happen task (s ∷ []) (at_time m s.time)).fluents f -ℚ (m.slope f +ℚ turn task (snap_of task s.snap) f) *ℚ s.time;
  slope = λ f. m.slope f +ℚ turn task (snap_of task s.snap) f;
}

abbrev pub at_first : TaskParts → Carried
at_first task = record { facts = (initial task).facts; level = (initial task).fluents; slope = λ f. zeroℚ }

-- what a list of steps carries on from m
abbrev pub carry_all : TaskParts → Carried → List Step → Carried
carry_all task m ss = fold (carry task) m ss

abbrev pub carried : TaskParts → List Step → Carried
carried task ss = carry_all task (at_first task) ss

-- ---- which steps may change places

-- a step changes a fluent where it writes it or turns its slope
abbrev pub changes : TaskParts → Snap → ℕ → Bool
changes task s f = is_in f (written_fluents s) || is_in f (bent_fluents task s)

abbrev pub changes_fact : Snap → ℕ → Bool
changes_fact s f = is_in f s.effect.adds || is_in f s.effect.deletes

-- Whatever fluents some amounts read, the step doesn't change.
abbrev pub Spares : TaskParts → Snap → List (ℕ × Amount) → Type 0
Spares task s amounts = AllByRecursion (λ e. AllByRecursion (λ t. changes task s t.0 ≡ false) e.1.form.terms) amounts

-- Two snap actions are independent where neither changes what the other changes or reads in its effects; but both
-- may increase a fluent, and both may turn it.
pub record Independent (task : TaskParts) (x y : Snap) : Type 0 where
  pub facts : (f : ℕ) → changes_fact x f ≡ true → changes_fact y f ≡ false
  pub first_assigns : (f : ℕ) → is_in f (assigned_fluents x) ≡ true → changes task y f ≡ false
  pub second_assigns : (f : ℕ) → is_in f (assigned_fluents y) ≡ true → changes task x f ≡ false
  pub first_reads : Spares task y x.effect.assigns × Spares task y x.effect.increases
  pub second_reads : Spares task x y.effect.assigns × Spares task x y.effect.increases

-- Whatever fluents some amounts read, the step doesn't write.
abbrev pub LeavesUnwritten : Snap → List (ℕ × Amount) → Type 0
LeavesUnwritten s amounts = AllByRecursion (λ e. AllByRecursion (λ t. is_in t.0 (written_fluents s) ≡ false) e.1.form.terms) amounts

-- Two snap actions may happen at once where the second deletes nothing that the first adds, and the first writes
-- nothing that the second assigns or reads in its effects. Both may increase a fluent, and both may turn it.
pub record Together (x y : Snap) : Type 0 where
  pub facts : (f : ℕ) → is_in f x.effect.adds ≡ true → is_in f y.effect.deletes ≡ false
  pub assigns : (f : ℕ) → is_in f (assigned_fluents y) ≡ true → is_in f (written_fluents x) ≡ false
  pub reads : LeavesUnwritten x y.effect.assigns × LeavesUnwritten x y.effect.increases

-- What two steps of a list, the first before the second, need so that the order of the list gives the states that
-- the order in time gives.
pub record Agrees (task : TaskParts) (x y : Step) : Type 0 where
  pub crossed : y.time <ℚ x.time → Independent task (snap_of task x.snap) (snap_of task y.snap)
  pub at_once : x.time ≡ y.time → Together (snap_of task x.snap) (snap_of task y.snap)

abbrev pub AllAgree : TaskParts → List Step → Type 0
AllAgree task [] = Unit {0}
AllAgree task (x ∷ xs) = AllByRecursion (Agrees task x) xs × AllAgree task xs

-- Two snap actions are tied apart, or in order, by some token. (Two timed ones may be, though their link is free:
-- their moments set them in order.)
abbrev pub tied_apart : TaskParts → Snap → Snap → Bool
tied_apart task x y = list_any (sets_apart task x y) (tokens task)

abbrev pub tied_in_order : TaskParts → Snap → Snap → Bool
tied_in_order task x y = list_any (sets_order task x y) (tokens task)

-- A step follows another where the times agree with what ties them.
pub record Follows (task : TaskParts) (x y : Step) : Type 0 where
  pub later : tied_apart task (snap_of task x.snap) (snap_of task y.snap) ≡ true → x.time <ℚ y.time
  pub no_earlier : tied_in_order task (snap_of task x.snap) (snap_of task y.snap) ≡ true → x.time ≤ℚ y.time

-- each step of a list is followed so by each later one
abbrev pub AreInOrder : TaskParts → List Step → Type 0
AreInOrder task [] = Unit {0}
AreInOrder task (x ∷ xs) = AllByRecursion (Follows task x) xs × AreInOrder task xs
