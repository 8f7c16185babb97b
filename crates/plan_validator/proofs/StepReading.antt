-- What a step reads, as its condition and the bounds of its duration.
use Rattle.std.proofs.Common.{◌≡◌, refl, ap, ◌∙◌, ℕ, zero, suc, Bool, true, false, cond, if◌then◌else◌, List, [], ◌∷◌, ◌++◌, map, None}
use Rattle.std.specs.Prelude.{slice_get, slice_index_or}
use Rattle.std.specs.List.{flat_map, filter}
use Rattle.rational.specs.Rational.{ℚ}
use Rattle.exact_lin.specs.Reckonings.{Value}
use Rattle.task_types.specs.declared.actions.Action.{Action}
use Rattle.task_types.specs.declared.actions.Bound.{Bound}
use Rattle.task_types.specs.declared.actions.SnapKind.{SnapKind}
use Rattle.task_types.specs.declared.parts.TaskParts.{TaskParts}
use Rattle.task_types.specs.State.{State}
use Rattle.task_types.specs.Plan.{Step, snap_of, no_action}
use Rattle.task_types.specs.Clash.{is_read_at, own_action}
use Rattle.task_types.specs.Reckoned.{read_reckoned}
use Rattle.timed_meaning.specs.Answers.{told}
use Rattle.std.proofs.lemmas.List.Concat.{flat_map_single}
use Rattle.plan_validator.specs.Readings.{one_value, bound_value, bounds_reckoned}

pub none-action : (xs : List Action) (k : ℕ) → None ≡ slice_get xs k → slice_index_or xs k no_action ≡ no_action
none-action [] k e = refl
none-action (x ∷ xs) zero e = cc
none-action (x ∷ xs) (suc k) e = none-action xs k e

bounds-are : (kind : SnapKind) (s : State) (bs : List Bound) → flat_map (bound_value kind s) bs ≡ map (λ b. Value b.form s.fluents) (filter (is_read_at kind) bs)
bounds-are kind s [] = refl
bounds-are kind s (b ∷ bs) = go (is_read_at kind b) (bounds-are kind s bs)
  where
    go : (c : Bool) → flat_map (bound_value kind s) bs ≡ map (λ b. Value b.form s.fluents) (filter (is_read_at kind) bs) → (if c then one_value s b.form else []) ++ flat_map (bound_value kind s) bs ≡ map (λ b. Value b.form s.fluents) (cond c (b ∷ filter (is_read_at kind) bs) (filter (is_read_at kind) bs))
    go true r = ap (λ rs. Value b.form s.fluents ∷ rs) r
    go false r = r

pub read-is : (task : TaskParts) (facts : List Bool) (fluents : List ℚ) (step : Step)
    → flat_map (one_value (told facts fluents)) (snap_of task step.snap).condition.comparisons ++ bounds_reckoned task (told [] fluents) step ≡ read_reckoned task (told facts fluents) step
read-is task facts fluents step =
    ap (λ rs. rs ++ bounds_reckoned task (told [] fluents) step) (flat_map_single (λ e. Value e (told facts fluents).fluents) (snap_of task step.snap).condition.comparisons)
    ∙ ap (λ rs. map (λ e. Value e (told facts fluents).fluents) (snap_of task step.snap).condition.comparisons ++ rs) (bounds-are (snap_of task step.snap).kind (told facts fluents) (flat_map (λ a. a.bounds) (own_action task (snap_of task step.snap))))
