-- The forms of a well made task are over its fluents.
use Rattle.std.proofs.Common.{◌≡◌, sym, subst, ℕ, ◌<◌, true, List, [], ◌∷◌, length, Option, Some, None}
use Rattle.std.specs.Prelude.{map, option_to_list}
use Rattle.std.specs.List.{AllByRecursion, list_all, flat_map}
use Rattle.std.proofs.lemmas.List.{append-nil}
use Rattle.exact_lin.specs.Forms.{Covers, LinearForm}
use Rattle.basics.proofs.Bools.{and_left, and_right}
use Rattle.basics.proofs.Naturals.{lt_out}
use Rattle.basics.proofs.Lists.{each_at, all_out}
use Rattle.task_types.specs.declared.actions.Bound.{Bound}
use Rattle.task_types.specs.declared.conditions.Condition.{Condition}
use Rattle.task_types.specs.declared.parts.TaskParts.{TaskParts}
use Rattle.task_types.specs.Plan.{action_of, snap_of, no_action}
use Rattle.task_types.specs.Clash.{own_action}
use Rattle.task_types.specs.WellMade.{IsWellMade, form_fits, condition_fits, action_fits, is_action}
use Rattle.task_types.proofs.Assigning.{snap_of_fits}
use Rattle.timed_meaning.proofs.Happening.{covers-out}

-- each form of a condition is covered by so many fluents
abbrev pub AreCovered : ℕ → List LinearForm → Type 0
AreCovered n forms = AllByRecursion (λ e. Covers n e.terms) forms

module _ (task : TaskParts) where
  form-covered : (e : LinearForm) → form_fits task e ≡ true → Covers (length task.fluents) e.terms
  form-covered e h = covers-out (length task.fluents) e.terms (and_right _ _ h)

  forms-covered : (es : List LinearForm) → list_all (form_fits task) es ≡ true → AreCovered (length task.fluents) es
  forms-covered [] h = tt
  forms-covered (e ∷ es) h = (form-covered e (and_left _ _ h), forms-covered es (and_right _ _ h))

  condition_covered : (c : Condition) → condition_fits task c ≡ true → AreCovered (length task.fluents) c.comparisons
  condition_covered c h = forms-covered c.comparisons (and_right _ _ (and_right _ _ h))

  bounds_covered : (bs : List Bound) → list_all (λ b. form_fits task b.form) bs ≡ true → AllByRecursion (λ b. Covers (length task.fluents) b.form.terms) bs
  bounds_covered [] h = tt
  bounds_covered (b ∷ bs) h = (form-covered b.form (and_left _ _ h), bounds_covered bs (and_right _ _ h))

  module _ (w : IsWellMade task) where
    action_fits-at : (a : ℕ) → a < length task.actions → action_fits task (action_of task a) ≡ true
    action_fits-at a h = each_at (λ a. action_fits task a ≡ true) task.actions a no_action h (all_out (action_fits task) task.actions (and_right _ _ w.actions))

    pub snap-covered : (k : ℕ) → AreCovered (length task.fluents) (snap_of task k).condition.comparisons
    snap-covered k = condition_covered (snap_of task k).condition (and_left _ _ (and_left _ _ (and_left _ _ (and_left _ _ (and_left _ _ (and_left _ _ (snap_of_fits task (and_right _ _ w.snaps) k)))))))

    pub over_all-covered : (a : ℕ) → a < length task.actions → AreCovered (length task.fluents) (action_of task a).over_all.comparisons
    over_all-covered a h = condition_covered (action_of task a).over_all (and_right _ _ (and_left _ _ (action_fits-at a h)))

    pub goal-covered : AreCovered (length task.fluents) task.goal.comparisons
    goal-covered = condition_covered task.goal w.goal

    pub bounds-covered : (k : ℕ) → AllByRecursion (λ b. Covers (length task.fluents) b.form.terms) (flat_map (λ a. a.bounds) (own_action task (snap_of task k)))
    bounds-covered k = go (snap_of task k).action (and_right _ _ (snap_of_fits task (and_right _ _ w.snaps) k))
      where
        go : (o : Option ℕ) → is_action task o ≡ true → AllByRecursion (λ b. Covers (length task.fluents) b.form.terms) (flat_map (λ a. a.bounds) (map (action_of task) (option_to_list o)))
        go None h = tt
        go (Some a) h = subst (AllByRecursion (λ b. Covers (length task.fluents) b.form.terms)) (sym (append-nil (action_of task a).bounds))
            (bounds_covered (action_of task a).bounds (and_right _ _ (and_left _ _ (and_left _ _ (action_fits-at a (lt_out a (length task.actions) h))))))
