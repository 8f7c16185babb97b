use Rattle.std.proofs.Common.{◌≡◌, ◌∙◌, refl, subst}
use Rattle.task_types.specs.declared.parts.TaskParts.{TaskParts}
use Rattle.task_types.specs.Course.{happen}
use Rattle.task_types.specs.Reckoned.{effects_reckoned}
use Rattle.timed_meaning.specs.Answers.{Tells}
use Rattle.timed_meaning.specs.Standings.{shown, IsKept}
use Rattle.timed_meaning.proofs.Onward.{here-is}
use Rattle.timed_meaning.proofs.Stepping.{tells-as, effects-are, after-is}
use Rattle.timed_meaning.proofs.sweeps.Sweep.apply.Goals as goal

pub returns : goal.returns
returns c = λ plan b h.
    let here = c.here.ensures ∙ here-is c.args.task.now.parts plan c.args.self.now.agenda b.at h in
    tells-as c.happen.result _ _ _ _ (effects-are c.args.task.now.parts plan c.args.self.now.agenda.place c.here.result.now here (shown c.args.self.now.standing) b.state)
    (λ u p. (record { at = b.at; kept = p.0; state = after-is c.args.task.now.parts plan c.args.self.now.agenda.place c.here.result.now here (shown c.args.self.now.standing) b.state (shown c.happen.new.self) p.1 }, refl))
    (subst (λ (p : TaskParts). Tells c.happen.result (effects_reckoned p c.here.result.now (shown c.args.self.now.standing)) (λ _. IsKept p c.happen.new.self × (shown c.happen.new.self ≡ happen p c.here.result.now (shown c.args.self.now.standing)))) c.parts.ensures c.happen.ensures)
