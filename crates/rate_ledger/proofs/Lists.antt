-- Lists of pairs, read by their first parts, and lists that are gone through place by place.
use Rattle.std.proofs.Common.{◌≡◌, refl, sym, ap, ap₂, ◌∙◌, ℕ, zero, suc, ◌<◌, ◌≤◌, length, arith, Bool, true, false, cond, ◌&&◌, ◌||◌, ◌==◌, List, [], ◌∷◌, ◌++◌, map, Option, Some, None, Result, Ok, Err}
use Rattle.std.specs.Prelude.{slice_index_or, option_to_list, IfOk}
use Rattle.std.specs.List.{list_any, flat_map}
use Rattle.std.proofs.lemmas.List.{append-nil}
use Rattle.std.proofs.lemmas.List.Folds.{list_any-append}
use Rattle.rational.specs.Rational.{zeroℚ}
use Rattle.task_types.specs.declared.actions.Snap.{Snap}
use Rattle.task_types.specs.declared.actions.SnapKind.{SnapKind}
use Rattle.task_types.specs.declared.parts.Fluent.{Fluent}
use Rattle.task_types.specs.declared.parts.TaskParts.{TaskParts}
use Rattle.task_types.specs.Sets.{is_in}
use Rattle.task_types.specs.Course.{initial, entries_of}
use Rattle.task_types.specs.Clash.{assigned_fluents, increased_fluents, written_fluents}
use Rattle.task_types.specs.Touch.{bent_fluents, is_start_or_end}
use Rattle.task_types.specs.Plan.{snap_of, action_of}
use Rattle.basics.proofs.Lists.{map-filter-append}
use Rattle.task_types.specs.Order.{run_on}
use Rattle.ordering.proofs.RunningActions.{runs_as_before}
use Rattle.rate_ledger.specs.Picking.{bent_for}

-- a test of the first parts
pub any_named : {A : Type 0} (f : ℕ) (xs : List (ℕ × A)) → list_any (λ e. e.0 == f) xs ≡ is_in f (map (λ e. e.0) xs)
any_named f [] = refl
any_named f (x ∷ xs) = ap (λ b. (x.0 == f) || b) (any_named f xs)

pub entries_append : {A : Type 0} (f : ℕ) (xs ys : List (ℕ × A)) → entries_of f (xs ++ ys) ≡ entries_of f xs ++ entries_of f ys
entries_append f xs ys = map-filter-append (λ e. e.1) (λ e. e.0 == f) xs ys

-- a step writes a fluent that it assigns or increases
pub written_by : (s : Snap) (f : ℕ) → is_in f (written_fluents s) ≡ (list_any (λ e. e.0 == f) s.effect.assigns || list_any (λ e. e.0 == f) s.effect.increases)
written_by s f = list_any-append (λ y. y == f) (assigned_fluents s) (increased_fluents s) ∙ ap₂ (λ a b. a || b) (sym (any_named f s.effect.assigns)) (sym (any_named f s.effect.increases))

-- a step bends a fluent where it starts or ends an action that has a rate on it
pub bent_by : (task : TaskParts) (s : Snap) (f : ℕ) (o : Option ℕ) → s.action ≡ o → is_in f (bent_fluents task s) ≡ bent_for task s.kind f o
bent_by task s f None e = rw e refl
bent_by task s f (Some a) e = rw e (go (is_start_or_end s.kind))
  where
    go : (b : Bool) → is_in f (flat_map (λ a. map (λ r. r.0) (snap_of task (action_of task a).start).rates) (cond b (a ∷ []) [])) ≡ (b && list_any (λ r. r.0 == f) (snap_of task (action_of task a).start).rates)
    go true = ap (is_in f) (append-nil (map (λ r. r.0) (snap_of task (action_of task a).start).rates)) ∙ sym (any_named f (snap_of task (action_of task a).start).rates)
    go false = refl

pub bent_some : (task : TaskParts) (s : Snap) (f a : ℕ) (b : Bool) → s.action ≡ Some a → b ≡ bent_for task s.kind f (Some a) → b ≡ is_in f (bent_fluents task s)
bent_some task s f a b e h = h ∙ sym (bent_by task s f (Some a) e)

pub bent_none : (task : TaskParts) (s : Snap) (f : ℕ) → s.action ≡ None → false ≡ is_in f (bent_fluents task s)
bent_none task s f e = sym (bent_by task s f None e)

-- no action is as before
pub runs_same : {E : Type 0} (r : Result (List ℕ) E) (kind : SnapKind) (o : Option ℕ) (running : List ℕ) → o ≡ None → IfOk r (λ out. out ≡ running) → IfOk r (λ out. out ≡ run_on kind (option_to_list o) running)
runs_same (Ok out) kind o running e h = h ∙ sym (ap (λ o. run_on kind (option_to_list o) running) e ∙ runs_as_before kind running)
runs_same (Err x) kind o running e h = tt

there : (xs : List Fluent) (k : ℕ) (x : Fluent) → k < length xs → x ≡ slice_index_or xs k x → slice_index_or (map (λ x. x.value) xs) k zeroℚ ≡ x.value
there [] k x h e = absurd (omega (arith, h))
there (y ∷ ys) zero x h e = ap (λ y. y.value) (sym e)
there (y ∷ ys) (suc k) x h e = there ys k x (omega (arith, h)) e

past : (xs : List Fluent) (k : ℕ) → length xs ≤ k → slice_index_or (map (λ x. x.value) xs) k zeroℚ ≡ zeroℚ
past [] k h = refl
past (y ∷ ys) zero h = absurd (omega (arith, h))
past (y ∷ ys) (suc k) h = past ys k (omega (arith, h))

-- what a fluent has at first
pub initial_there : (task : TaskParts) (f : ℕ) (xs : List Fluent) (k : ℕ) (x : Fluent) → xs ≡ task.fluents → k ≡ f → k < length xs → x ≡ slice_index_or xs k x → x.value ≡ (initial task).fluents f
unfolding initial
initial_there task f xs k x l n h e = sym (there xs k x h e) ∙ ap₂ (λ xs k. slice_index_or (map (λ x. x.value) xs) k zeroℚ) l n

pub initial_past : (task : TaskParts) (f : ℕ) (xs : List Fluent) (k : ℕ) → xs ≡ task.fluents → k ≡ f → length xs ≤ k → zeroℚ ≡ (initial task).fluents f
unfolding initial
initial_past task f xs k l n h = sym (past xs k h) ∙ ap₂ (λ xs k. slice_index_or (map (λ x. x.value) xs) k zeroℚ) l n
