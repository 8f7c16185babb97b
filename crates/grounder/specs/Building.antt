-- Private: conditions and effects with one part or one change more.
use Rattle.std.specs.Prelude.{ℕ, Bool, if◌then◌else◌, List, [], ◌∷◌, ◌++◌, map, Some}
use Rattle.std.specs.List.{flat_map}
use Rattle.rational.specs.Rational.{ℚ}
use Rattle.task_types.specs.declared.conditions.Condition.{Condition}
use Rattle.task_types.specs.declared.conditions.Effect.{Effect}
use Rattle.task_types.specs.declared.actions.Bound.{Bound}
use Rattle.task_types.specs.declared.actions.Snap.{Snap}
use Rattle.task_types.specs.declared.actions.SnapKind.{SnapKind}
use Rattle.task_types.specs.declared.actions.SnapKind.TheVariants as snap
use Rattle.ground_world.specs.World.{Env}
use Rattle.ground_world.specs.declared.changes.Stage.{Stage}
use Rattle.ground_world.specs.declared.changes.Stage.TheVariants.{AtStart, AtEnd}
use Rattle.ground_world.specs.Changes.{Staged, parts_at, Change}
use Rattle.ground_world.specs.Conditions.{Part, DurationBound}
use Rattle.ground_world.specs.Expressions.{reckoned, form_or_zero}
use Rattle.grounder.specs.Instances.{no_unknowns}
use Rattle.grounder.specs.Bindings.{Pieces}
use Rattle.grounder.specs.Task.{Ground, dynamic_literal, forms_in, action_condition, effect, added_facts, deleted_facts, assigned_amounts, increased_amounts, over_fluents, bound_kinds, fluent_rates}

abbrev pub with_part : Ground → Condition → Part → Condition
with_part g c p = record {
  literals = c.literals ++ dynamic_literal g.world g.facts p;
  comparisons = c.comparisons ++ forms_in g p;
}

abbrev pub with_parts : Ground → Condition → List Part → Condition
with_parts g c ps = record {
  literals = c.literals ++ flat_map (dynamic_literal g.world g.facts) ps;
  comparisons = c.comparisons ++ flat_map (forms_in g) ps;
}

abbrev pub with_change : Ground → Bool → Env → Effect → Change → Effect
with_change g durative env e c = record {
  adds = e.adds ++ added_facts g env c;
  deletes = e.deletes ++ deleted_facts g env c;
  assigns = e.assigns ++ assigned_amounts g durative env c;
  increases = e.increases ++ increased_amounts g durative env c;
}

abbrev pub with_changes : Ground → Bool → Env → Effect → List Change → Effect
with_changes g durative env e cs = record {
  adds = e.adds ++ flat_map (added_facts g env) cs;
  deletes = e.deletes ++ flat_map (deleted_facts g env) cs;
  assigns = e.assigns ++ flat_map (assigned_amounts g durative env) cs;
  increases = e.increases ++ flat_map (increased_amounts g durative env) cs;
}

-- the bounds of the task that one bound of a duration stands for
abbrev pub bounds_from : Ground → Env → DurationBound → List Bound
bounds_from g env l = map (λ k. record {
  at_least = k;
  at_end = l.at_end;
  form = over_fluents g (form_or_zero (reckoned g.world no_unknowns env l.expression));
}) (bound_kinds l.order)

abbrev pub all_bounds : Ground → Env → List DurationBound → List Bound
all_bounds g env bs = flat_map (bounds_from g env) bs

-- a snap action of a binding that is given by its flat lists
abbrev pub snap_from : Ground → ℕ → Bool → Env → Pieces → SnapKind → Stage → List (ℕ × ℚ) → Snap
snap_from g a durative env x k stage rates = record {
  kind = k;
  action = Some a;
  condition = action_condition g (parts_at stage x.conditions);
  effect = effect g durative env (parts_at stage x.changes);
  rates = rates;
}

abbrev pub snaps_from : Ground → ℕ → Bool → Env → Pieces → List Snap
snaps_from g a durative env x = if durative
    then (snap_from g a durative env x snap.Start AtStart (flat_map (λ c. fluent_rates g env c.part) x.changes)
    ∷ snap_from g a durative env x snap.End AtEnd [] ∷ [])
    else (snap_from g a durative env x snap.Instant AtStart [] ∷ [])
