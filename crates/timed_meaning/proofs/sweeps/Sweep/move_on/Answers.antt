use Rattle.std.proofs.Common.{◌≡◌, ◌∙◌, ◌<◌, suc, refl, sym, ap, subst, arith}
use Rattle.task_types.specs.declared.parts.TaskParts.{TaskParts}
use Rattle.task_types.specs.Course.{moved}
use Rattle.task_types.specs.Reckoned.{move_reckoned}
use Rattle.timed_meaning.specs.Moves.{AreLines}
use Rattle.timed_meaning.specs.Owned.{lines_of}
use Rattle.timed_meaning.specs.Answers.{Tells}
use Rattle.timed_meaning.specs.Standings.{shown, IsKept}
use Rattle.timed_meaning.proofs.Onward.{more-out, time-first, time-next, first-within, running-lines, running-known}
use Rattle.timed_meaning.proofs.Stepping.{tells-as, move-is, before-is}
use Rattle.timed_meaning.proofs.sweeps.Sweep.move_on.Goals as goal

pub next_time-to-requires : goal.next_time-to-requires
next_time-to-requires c = more-out c.args.task.now.parts c.requires.0 c.args.self.now.agenda c.requires.1.at c.requires.2

pub advance-requires-clause-lines : goal.advance-requires-clause-lines
advance-requires-clause-lines c = subst (λ (p : TaskParts). AreLines p (lines_of c.as_slice-running.result.now)) (sym c.parts.ensures)
    (subst (λ ls. AreLines c.args.task.now.parts (lines_of ls)) (sym c.as_slice-running.ensures.value) (running-known c.args.task.now.parts c.requires.0 c.args.self.now.agenda c.requires.1.at c.requires.2 _ _ refl refl))

pub returns : goal.returns
returns c = λ plan a h.
    let from_is = c.time-from.ensures ∙ sym (time-first c.args.task.now.parts plan c.args.self.now.agenda a.at (first-within c.args.task.now.parts plan c.args.self.now.agenda a.at (omega (arith, h)))) in
    let to_is = c.next_time-to.ensures ∙ sym (time-next c.args.task.now.parts plan c.args.self.now.agenda a.at (more-out c.args.task.now.parts plan c.args.self.now.agenda a.at h)) in
    let lines_are = ap lines_of c.as_slice-running.ensures.value ∙ running-lines c.args.task.now.parts plan c.args.self.now.agenda a.at h c.time-from.result c.next_time-to.result from_is to_is in
    tells-as c.advance.result _ _ _ _ (move-is c.args.task.now.parts plan c.args.self.now.agenda.place h c.time-from.result c.next_time-to.result from_is to_is (shown c.args.self.now.standing) a.state)
    (λ u p. (record { at = a.at; kept = p.0; state = before-is c.args.task.now.parts plan c.args.self.now.agenda.place h c.time-from.result c.next_time-to.result from_is to_is (shown c.args.self.now.standing) a.state (shown c.advance.new.self) p.1 }, refl))
    (subst (λ (p : TaskParts). Tells c.advance.result (move_reckoned p plan c.time-from.result c.next_time-to.result (shown c.args.self.now.standing)) (λ _. IsKept p c.advance.new.self × (shown c.advance.new.self ≡ moved p plan c.time-from.result c.next_time-to.result (shown c.args.self.now.standing)))) c.parts.ensures (c.advance.ensures plan lines_are))
