use Rattle.std.proofs.Common.{◌≡◌, ◌∙◌, ap, sym, subst, length}
use Rattle.std.specs.List.{AllByRecursion, flat_map}
use Rattle.exact_lin.specs.Forms.{Covers}
use Rattle.exact_lin.specs.Reckonings.{Value}
use Rattle.task_types.specs.declared.conditions.Condition.{Condition}
use Rattle.task_types.specs.State.{State, holds}
use Rattle.task_types.specs.Course.{last_state}
use Rattle.timed_meaning.specs.Answers.{told, Tells}
use Rattle.timed_meaning.proofs.Stepping.{tells-as}
use Rattle.plan_validator.specs.Readings.{one_value}
use Rattle.plan_validator.proofs.Covered.{goal-covered}
use Rattle.std.proofs.lemmas.List.Concat.{flat_map_single}
use Rattle.plan_validator.proofs.passing.goal_holds.Goals as goal

pub holds-requires : goal.holds-requires
holds-requires c = subst (λ (g : Condition). AllByRecursion (λ e. Covers (length c.fluents.result.now) e.terms) g.comparisons) (sym c.goal.ensures)
    (subst (λ n. AllByRecursion (λ e. Covers n e.terms) c.args.task.now.parts.goal.comparisons) (sym (ap length c.fluents.ensures.held ∙ c.requires.2.kept.fluents)) (goal-covered c.args.task.now.parts c.args.task.now.well_made))

pub returns : goal.returns
returns c = λ rules plan done.
    let state_is = ap (λ fs. told fs c.fluents.result.now) c.facts.ensures.held ∙ ap (told c.args.watch.now.sweep.standing.facts.items) c.fluents.ensures.held ∙ done.state in
    tells-as c.holds.result _ _ _ _ (flat_map_single (λ e. Value e (last_state c.args.task.now.parts plan).fluents) c.args.task.now.parts.goal.comparisons) (λ b q. q)
    (subst (λ (s : State). Tells c.holds.result (flat_map (one_value s) c.args.task.now.parts.goal.comparisons) (λ b. b ≡ holds c.args.task.now.parts.goal s)) state_is
    (subst (λ (g : Condition). Tells c.holds.result (flat_map (one_value (told c.facts.result.now c.fluents.result.now)) g.comparisons) (λ b. b ≡ holds g (told c.facts.result.now c.fluents.result.now))) c.goal.ensures c.holds.ensures))
