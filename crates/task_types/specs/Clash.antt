-- Believed: what a snap action reads and writes, and which steps clash.
-- After Fox and Long 2003: mutex actions, the rule of no moving targets.
use Rattle.std.specs.Prelude.{ℕ, Bool, false, not, ◌||◌, List, ◌++◌, map, option_to_list}
use Rattle.std.specs.List.{filter, flat_map}
use Rattle.exact_lin.specs.Forms.{LinearForm}
use Rattle.task_types.specs.declared.actions.Bound.{Bound}
use Rattle.task_types.specs.declared.conditions.Condition.{Condition}
use Rattle.task_types.specs.declared.actions.Action.{Action}
use Rattle.task_types.specs.declared.actions.Snap.{Snap}
use Rattle.task_types.specs.declared.actions.SnapKind.{SnapKind}
use Rattle.task_types.specs.declared.actions.SnapKind.TheVariants.{Start, End, Instant, Timed}
use Rattle.task_types.specs.declared.parts.TaskParts.{TaskParts}
use Rattle.task_types.specs.Sets.{meet}
use Rattle.task_types.specs.Plan.{action_of}

-- the fluents of a form, and the facts and fluents of a condition
abbrev pub form_fluents : LinearForm → List ℕ
form_fluents form = map (λ t. t.0) form.terms

abbrev pub condition_facts : Condition → List ℕ
condition_facts c = map (λ l. l.fact) c.literals

abbrev pub condition_fluents : Condition → List ℕ
condition_fluents c = flat_map form_fluents c.comparisons

-- the action of a snap action, where it has one
abbrev pub own_action : TaskParts → Snap → List Action
own_action task s = map (action_of task) (option_to_list s.action)

-- A duration bound is read at the end where it is tagged so, and else at the start.
abbrev pub is_read_at : SnapKind → Bound → Bool
is_read_at Start b = not b.at_end
is_read_at End b = b.at_end
is_read_at Instant b = false
is_read_at Timed b = false

abbrev pub read_bounds : TaskParts → Snap → List Bound
read_bounds task s = filter (is_read_at s.kind) (flat_map (λ a. a.bounds) (own_action task s))

-- A snap action reads the facts of its own condition.
abbrev pub read_facts : Snap → List ℕ
read_facts s = condition_facts s.condition

-- It changes the facts that it adds or deletes.
abbrev pub changed_facts : Snap → List ℕ
changed_facts s = s.effect.adds ++ s.effect.deletes

-- It reads the fluents of its own condition, of its effect expressions, and of the duration bounds that are read there.
abbrev pub read_fluents : TaskParts → Snap → List ℕ
read_fluents task s = condition_fluents s.condition
    ++ flat_map (λ e. form_fluents e.1.form) (s.effect.assigns ++ s.effect.increases)
    ++ flat_map (λ b. form_fluents b.form) (read_bounds task s)

-- It writes the fluents that it assigns or increases; rates are no writes.
abbrev pub assigned_fluents : Snap → List ℕ
assigned_fluents s = map (λ e. e.0) s.effect.assigns

abbrev pub increased_fluents : Snap → List ℕ
increased_fluents s = map (λ e. e.0) s.effect.increases

abbrev pub written_fluents : Snap → List ℕ
written_fluents s = assigned_fluents s ++ increased_fluents s

-- One snap action disturbs another where it changes a fact or fluent that the other reads, deletes a fact that the
-- other adds, or writes a fluent that the other assigns.
abbrev pub disturbs : TaskParts → Snap → Snap → Bool
disturbs task y x = meet (read_facts x) (changed_facts y) || meet x.effect.adds y.effect.deletes
    || meet (read_fluents task x) (written_fluents y) || meet (assigned_fluents x) (written_fluents y)

-- Two snap actions clash where one disturbs the other.
unfoldable pub clash : TaskParts → Snap → Snap → Bool
clash task x y = disturbs task y x || disturbs task x y
