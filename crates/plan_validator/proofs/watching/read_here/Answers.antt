use Rattle.std.proofs.Common.{◌≡◌, ◌∙◌, ◌<◌, ◌-◌, ℕ, ap, sym, subst, length, drop}
use Rattle.std.specs.List.{flat_map}
use Rattle.task_types.specs.declared.parts.TaskParts.{TaskParts}
use Rattle.task_types.specs.State.{State}
use Rattle.task_types.specs.Course.{count, time_of, steps_at, state_before}
use Rattle.task_types.specs.Reckoned.{read_reckoned}
use Rattle.timed_meaning.specs.Answers.{told, Tells}
use Rattle.timed_meaning.specs.Told.{AreSteps}
use Rattle.timed_meaning.specs.Owned.{steps_of}
use Rattle.timed_meaning.proofs.Stepping.{tells-as}
use Rattle.timed_meaning.proofs.Onward.{here-is}
use Rattle.plan_validator.specs.Readings.{with_steps}
use Rattle.plan_validator.proofs.Telling.{told-is, flat_map-map, each-take, each-drop}
use Rattle.plan_validator.proofs.watching.read_here.Goals as goal

pub owned_here-here-requires : goal.owned_here-here-requires
owned_here-here-requires c = record { task = c.args.task.now.parts; plan = c.requires.0; at = c.requires.1.at }

pub read_steps-requires-clause-covered : goal.read_steps-requires-clause-covered
read_steps-requires-clause-covered c = (c.fluents.ensures.before c.args.task.now.parts c.requires.0 c.requires.1).covers ∙ ap (λ p. length p.fluents) (sym c.parts.ensures)

pub read_steps-requires-clause-known : goal.read_steps-requires-clause-known
read_steps-requires-clause-known c = subst (λ (p : TaskParts). AreSteps p (steps_of c.owned_here-here.result.now)) (sym c.parts.ensures)
    (subst (AreSteps c.args.task.now.parts) (sym (c.owned_here-here.ensures.steps c.args.task.now.parts c.requires.0 c.requires.1.at c.requires.2))
    (subst (AreSteps c.args.task.now.parts) (here-is c.args.task.now.parts c.requires.0 c.args.sweep.now.agenda c.requires.1.at c.requires.2)
    (each-take (λ s. s.snap < length c.args.task.now.parts.snaps) (c.args.sweep.now.agenda.next - c.args.sweep.now.agenda.first) (drop c.args.sweep.now.agenda.first c.args.sweep.now.agenda.steps.items)
    (each-drop (λ s. s.snap < length c.args.task.now.parts.snaps) c.args.sweep.now.agenda.first c.args.sweep.now.agenda.steps.items (subst (AreSteps c.args.task.now.parts) (sym c.requires.1.at.steps) c.requires.1.at.listed.known)))))

pub returns : goal.returns
returns c = λ plan k b p h.
    let there : c.args.sweep.now.agenda.place < count c.args.task.now.parts plan = subst (λ (j : ℕ). j < count c.args.task.now.parts plan) (sym p) h in
    let state_is = told-is c.args.task.now.parts c.facts.result.now c.fluents.result.now (state_before c.args.task.now.parts plan c.args.sweep.now.agenda.place) (c.facts.ensures.before c.args.task.now.parts plan b) (c.fluents.ensures.before c.args.task.now.parts plan b) ∙ ap (λ j. state_before c.args.task.now.parts plan j) p in
    let steps_are = c.owned_here-here.ensures.steps c.args.task.now.parts plan b.at there ∙ ap (λ j. steps_at c.args.task.now.parts plan (time_of c.args.task.now.parts plan j)) p in
    tells-as c.read_steps.result _ _ _ _
    (flat_map-map (read_reckoned c.args.task.now.parts (state_before c.args.task.now.parts plan k)) (λ o. o.step) c.owned_here-here.result.now ∙ ap (flat_map (read_reckoned c.args.task.now.parts (state_before c.args.task.now.parts plan k))) steps_are)
    (λ u q. q ∙ ap (with_steps c.args.task.now.parts c.args.rules.now (state_before c.args.task.now.parts plan k) c.args.readings.now) c.owned_here-here.ensures.here)
    (subst (λ (s : State). Tells c.read_steps.result (flat_map (λ o. read_reckoned c.args.task.now.parts s o.step) c.owned_here-here.result.now) (λ _. c.read_steps.new.readings ≡ with_steps c.args.task.now.parts c.args.rules.now s c.args.readings.now c.owned_here-here.result.now)) state_is
    (subst (λ (t : TaskParts). Tells c.read_steps.result (flat_map (λ o. read_reckoned t (told c.facts.result.now c.fluents.result.now) o.step) c.owned_here-here.result.now) (λ _. c.read_steps.new.readings ≡ with_steps t c.args.rules.now (told c.facts.result.now c.fluents.result.now) c.args.readings.now c.owned_here-here.result.now)) c.parts.ensures c.read_steps.ensures))
