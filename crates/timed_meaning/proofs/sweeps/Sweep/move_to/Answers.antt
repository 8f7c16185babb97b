use Rattle.std.proofs.Common.{◌≡◌, ◌∙◌, ◌<◌, ℕ, refl, sym, ap, subst, length}
use Rattle.std.specs.List.{filter}
use Rattle.task_types.specs.declared.parts.TaskParts.{TaskParts}
use Rattle.task_types.specs.Course.{count, moved, reached, time_of, state_after}
use Rattle.task_types.specs.Reckoned.{move_reckoned, move_to}
use Rattle.timed_meaning.specs.Moves.{AreLines}
use Rattle.timed_meaning.specs.Owned.{lines_of}
use Rattle.timed_meaning.specs.Places.{runs}
use Rattle.timed_meaning.specs.Answers.{Tells}
use Rattle.timed_meaning.specs.Standings.{shown, IsKept}
use Rattle.timed_meaning.proofs.Followed.{found-lines, found-known}
use Rattle.timed_meaning.proofs.Onward.{time-first, first-within}
use Rattle.timed_meaning.proofs.Stepping.{tells-as, reached-is}
use Rattle.timed_meaning.proofs.sweeps.Sweep.move_to.Goals as goal

pub time-from-requires : goal.time-from-requires
time-from-requires c = first-within c.args.task.now.parts c.requires.0 c.args.self.now.agenda c.requires.1.at c.requires.2

pub advance-requires-clause-lines : goal.advance-requires-clause-lines
advance-requires-clause-lines c = subst (λ (p : TaskParts). AreLines p (lines_of c.as_slice-running.result.now)) (sym c.parts-parts.ensures)
    (subst (λ ls. AreLines c.args.task.now.parts (lines_of ls)) (sym (c.as_slice-running.ensures.value ∙ c.in-Ok.ensures ∙ ap (filter (runs c.time-from.result c.args.to)) c.as_slice-lines.ensures.value))
    (found-known (λ l. l.action < length c.args.task.now.parts.actions) c.time-from.result c.args.to c.args.self.now.agenda.lines.items c.requires.1.at.listed.lines_known))

pub returns-in-Ok : goal.returns-in-Ok
returns-in-Ok c = λ plan k a p h.
    let there : c.args.self.now.agenda.place < count c.args.task.now.parts plan = subst (λ (j : ℕ). j < count c.args.task.now.parts plan) (sym p) h in
    let from_is = c.time-from.ensures ∙ sym (time-first c.args.task.now.parts plan c.args.self.now.agenda a.at (first-within c.args.task.now.parts plan c.args.self.now.agenda a.at there)) ∙ ap (λ j. time_of c.args.task.now.parts plan j) p in
    let lines_are = ap lines_of (c.as_slice-running.ensures.value ∙ c.in-Ok.ensures ∙ ap (filter (runs c.time-from.result c.args.to)) c.as_slice-lines.ensures.value) ∙ found-lines plan c.time-from.result c.args.to c.args.self.now.agenda.lines.items a.at.listed.ends a.at.listed.lines in
    let state_is = a.state ∙ ap (λ j. state_after c.args.task.now.parts plan j) p in
    tells-as c.advance.result _ _ _ _ (ap (λ t. move_reckoned c.args.task.now.parts plan t c.args.to (shown c.args.self.now.standing)) from_is ∙ ap (move_reckoned c.args.task.now.parts plan (time_of c.args.task.now.parts plan k) c.args.to) state_is)
    (λ u q. (q.0, q.1 ∙ ap (λ t. moved c.args.task.now.parts plan t c.args.to (shown c.args.self.now.standing)) from_is ∙ ap (moved c.args.task.now.parts plan (time_of c.args.task.now.parts plan k) c.args.to) state_is ∙ reached-is c.args.task.now.parts plan k c.args.to))
    (subst (λ (t : TaskParts). Tells c.advance.result (move_reckoned t plan c.time-from.result c.args.to (shown c.args.self.now.standing)) (λ _. IsKept t c.advance.new.self × (shown c.advance.new.self ≡ moved t plan c.time-from.result c.args.to (shown c.args.self.now.standing)))) c.parts-parts.ensures (c.advance.ensures plan lines_are))
