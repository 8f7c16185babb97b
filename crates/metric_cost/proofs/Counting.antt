-- A plan that was built for a task has few happenings, and its soft terms can be reckoned in the lists of its states.
use Rattle.std.proofs.Common.{◌≡◌, refl, sym, ap, subst, ◌∙◌, ℕ, ◌+◌, ◌*◌, ◌<◌, ◌≤◌, ◌^◌, Bool, true, ◌&&◌, List, [], ◌∷◌, ◌++◌, length, map, arith, length-append, Some, None}
use Rattle.std.specs.Prelude.{IsTrue, Option}
use Rattle.std.specs.List.{AllByRecursion, list_all, flat_map}
use Rattle.std.proofs.lemmas.List.{length-map}
use Rattle.std.proofs.lemmas.List.Elements.{All-nil}
use Rattle.basics.proofs.Bools.{and_left, and_right}
use Rattle.basics.proofs.Naturals.{le_out}
use Rattle.basics.proofs.Lists.{all_out}
use Rattle.rational.specs.Rational.{ℚ, zeroℚ}
use Rattle.exact_lin.specs.Forms.{LinearForm, Covers}
use Rattle.task_types.specs.declared.costs.Soft.{Soft}
use Rattle.task_types.specs.declared.costs.Soft.TheVariants as soft
use Rattle.task_types.specs.declared.parts.TaskParts.{TaskParts}
use Rattle.task_types.specs.declared.plans.PlanLine.{PlanLine}
use Rattle.task_types.specs.Plan.{Plan, Step, end_step, line_steps, plan_steps, timed_steps, steps, happenings, action_of}
use Rattle.task_types.specs.Course.{count}
use Rattle.task_types.specs.Touch.{soft_facts}
use Rattle.task_types.specs.WellMade.{IsWellMade, form_fits, soft_fits, is_short}
use Rattle.trajectory.specs.Facts.{AreCovered}
use Rattle.trajectory.proofs.Covering.{tasks_are_covered}
use Rattle.timed_meaning.specs.TimedPlans.{IsBuiltFor}
use Rattle.metric_cost.specs.Terms.{CanReckon}
use Rattle.timed_meaning.proofs.Happening.{covers-out}
use Rattle.timed_meaning.proofs.Listed.{length-beside, length-in_place, length-ascending}

-- ---- how many happenings

end-short : (l : PlanLine) (o : Option ℕ) → length (end_step l o) ≤ 1
end-short l None = omega arith
end-short l (Some s) = omega arith

steps-short : (task : TaskParts) (plan : Plan) → length (plan_steps task plan) ≤ 2 * length plan
steps-short task [] = omega arith
steps-short task (l ∷ ls) = omega (arith, length-append (line_steps task l) (plan_steps task ls), end-short l (action_of task l.action).end, steps-short task ls)

timed-few : (task : TaskParts) → IsWellMade task → length task.timed ≤ 64
timed-few task w = le_out (length task.timed) 64 (and_left _ _ (and_left _ _ w.timed))

abbrev moment_step : ℚ × ℕ → Step
moment_step t = record { time = t.0; snap = t.1; duration = zeroℚ }

pub few_happenings : (task : TaskParts) (plan : Plan) → IsWellMade task → IsBuiltFor task plan → count task plan < 2 ^ 31
unfolding happenings
few_happenings task plan w b = omega (
  arith,
  length-ascending (map (λ (s : Step). s.time) (steps task plan)),
  length-map (steps task plan) (λ (s : Step). s.time),
  length-append (plan_steps task plan) (timed_steps task),
  length-map task.timed moment_step,
  steps-short task plan,
  timed-few task w,
  b.few,
)

-- ---- what soft terms read

pub form-covers : (task : TaskParts) (form : LinearForm) (n : ℕ) → n ≡ length task.fluents → IsTrue (form_fits task form) → Covers n form.terms
form-covers task form n e h = subst (λ (k : ℕ). Covers k form.terms) (sym e) (covers-out (length task.fluents) form.terms (and_right _ _ h))

forms-cover : (task : TaskParts) (forms : List LinearForm) (n : ℕ) → n ≡ length task.fluents → list_all (form_fits task) forms ≡ true → AllByRecursion (λ e. Covers n e.terms) forms
forms-cover task [] n e h = tt
forms-cover task (f ∷ fs) n e h = (form-covers task f n e (and_left _ _ h), forms-cover task fs n e (and_right _ _ h))

module _ (task : TaskParts) (facts : List Bool) (fs : length facts ≡ length task.facts) where
  soft-covered : (s : Soft) → soft_fits task s ≡ true → AreCovered (soft_facts s) facts
  soft-covered (soft.Trail c w) h = tasks_are_covered.constraints task c facts (omega (arith, fs)) (and_left _ _ h)
  soft-covered (soft.Goal formula forms w) h = All-nil (λ f. f < length facts)
  soft-covered (soft.Late formula c w) h = tasks_are_covered.formulas task formula facts (omega (arith, fs)) (and_left _ _ (and_left _ _ (and_left _ _ (and_left _ _ h))))
  soft-covered (soft.Pieces formula ps w) h = tasks_are_covered.formulas task formula facts (omega (arith, fs)) (and_left _ _ (and_left _ _ (and_left _ _ (and_left _ _ h))))

  all-covered : (ss : List Soft) → list_all (soft_fits task) ss ≡ true → AllByRecursion (λ s. AreCovered (soft_facts s) facts) ss
  all-covered [] h = tt
  all-covered (s ∷ ss) h = (soft-covered s (and_left _ _ h), all-covered ss (and_right _ _ h))

  pub softs-covered : IsWellMade task → AllByRecursion (λ s. AreCovered (soft_facts s) facts) task.soft
  softs-covered w = all-covered task.soft (and_right _ _ w.terms)

  module _ (fluents : List ℚ) (vs : length fluents ≡ length task.fluents) where
    soft-reckons : (s : Soft) → soft_fits task s ≡ true → CanReckon s facts fluents
    soft-reckons (soft.Trail c w) h = tt
    soft-reckons (soft.Goal formula forms w) h = (
      tasks_are_covered.formulas task formula facts (omega (arith, fs)) (and_left _ _ (and_left _ _ h)),
      forms-cover task forms (length fluents) vs (and_right _ _ (and_right _ _ (and_left _ _ h))),
    )
    soft-reckons (soft.Late formula c w) h = and_right _ _ (and_left _ _ (and_left _ _ h))
    soft-reckons (soft.Pieces formula ps w) h = and_right _ _ (and_left _ _ h)

    all-reckon : (ss : List Soft) → list_all (soft_fits task) ss ≡ true → AllByRecursion (λ s. CanReckon s facts fluents) ss
    all-reckon [] h = tt
    all-reckon (s ∷ ss) h = (soft-reckons s (and_left _ _ h), all-reckon ss (and_right _ _ h))

    pub softs-reckon : IsWellMade task → AllByRecursion (λ s. CanReckon s facts fluents) task.soft
    softs-reckon w = all-reckon task.soft (and_right _ _ w.terms)

pub metric-covers : (task : TaskParts) (n : ℕ) → n ≡ length task.fluents → IsWellMade task → Covers n task.metric.fluents.terms
metric-covers task n e w = form-covers task task.metric.fluents n e (and_right _ _ (and_left _ _ w.metric))
