use Rattle.std.proofs.Common.{◌≡◌, ◌∙◌, ℕ, suc, List, ◌<◌, ap, sym, subst, length, map, refl}
use Rattle.std.specs.List.{flat_map}
use Rattle.task_types.specs.declared.parts.TaskParts.{TaskParts}
use Rattle.task_types.specs.State.{State}
use Rattle.task_types.specs.Course.{count, time_of}
use Rattle.timed_meaning.specs.declared.placing.PlacedLine.{PlacedLine}
use Rattle.timed_meaning.specs.Answers.{told, Tells}
use Rattle.timed_meaning.specs.Moves.{AreLines}
use Rattle.timed_meaning.specs.Owned.{lines_of}
use Rattle.timed_meaning.proofs.Followed.{running-filtered}
use Rattle.timed_meaning.proofs.Onward.{running-known}
use Rattle.plan_validator.specs.Firsts.{all_noted}
use Rattle.plan_validator.specs.Segments.{over_all_values, over_all_note, running_over}
use Rattle.plan_validator.proofs.watching.note_end.Goals as goal

pub note_running-requires-clause-covered : goal.note_running-requires-clause-covered
note_running-requires-clause-covered c = ap length c.fluents.ensures.held ∙ c.requires.2.fluents ∙ ap (λ p. length p.fluents) (sym c.parts.ensures)

pub note_running-requires-clause-known : goal.note_running-requires-clause-known
note_running-requires-clause-known c = subst (λ (p : TaskParts). AreLines p (lines_of c.running-running.result.now)) (sym c.parts.ensures)
    (subst (λ ls. AreLines c.args.task.now.parts (lines_of ls)) (sym c.running-running.ensures.held) (running-known c.args.task.now.parts c.requires.0 c.args.sweep.now.agenda c.requires.1 c.requires.3 _ _ refl refl))

pub returns : goal.returns
returns c = λ plan k s at p h e.
    let there : suc c.args.sweep.now.agenda.place < count c.args.task.now.parts plan = subst (λ (j : ℕ). suc j < count c.args.task.now.parts plan) (sym p) h in
    let state_is = ap (λ fs. told fs c.fluents.result.now) c.facts.ensures.held ∙ ap (told c.args.sweep.now.standing.facts.items) c.fluents.ensures.held ∙ e in
    let lines_are = c.running-running.ensures.held ∙ running-filtered (time_of c.args.task.now.parts plan c.args.sweep.now.agenda.place) (time_of c.args.task.now.parts plan (suc c.args.sweep.now.agenda.place)) c.args.sweep.now.agenda.lines.items c.args.sweep.now.agenda.started c.args.sweep.now.agenda.running.items at.listed.ends (at.running there)
    ∙ ap (λ j. running_over c.args.task.now.parts plan c.args.sweep.now.agenda.lines.items j) p in
    let segment_is = c.place-segment.ensures ∙ p in
    subst (λ (j : ℕ). Tells c.note_running.result (flat_map (over_all_values c.args.task.now.parts s) (running_over c.args.task.now.parts plan c.args.sweep.now.agenda.lines.items k)) (λ _. c.note_running.new.least.place ≡ all_noted c.args.over_alls.now.place (map (over_all_note c.args.task.now.parts j s) (running_over c.args.task.now.parts plan c.args.sweep.now.agenda.lines.items k)))) segment_is
    (subst (λ (ls : List PlacedLine). Tells c.note_running.result (flat_map (over_all_values c.args.task.now.parts s) ls) (λ _. c.note_running.new.least.place ≡ all_noted c.args.over_alls.now.place (map (over_all_note c.args.task.now.parts c.place-segment.result s) ls))) lines_are
    (subst (λ (u : State). Tells c.note_running.result (flat_map (over_all_values c.args.task.now.parts u) c.running-running.result.now) (λ _. c.note_running.new.least.place ≡ all_noted c.args.over_alls.now.place (map (over_all_note c.args.task.now.parts c.place-segment.result u) c.running-running.result.now))) state_is
    (subst (λ (t : TaskParts). Tells c.note_running.result (flat_map (over_all_values t (told c.facts.result.now c.fluents.result.now)) c.running-running.result.now) (λ _. c.note_running.new.least.place ≡ all_noted c.args.over_alls.now.place (map (over_all_note t c.place-segment.result (told c.facts.result.now c.fluents.result.now)) c.running-running.result.now))) c.parts.ensures c.note_running.ensures)))
