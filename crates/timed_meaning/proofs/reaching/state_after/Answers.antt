use Rattle.std.proofs.Common.{◌∙◌, ℕ, ◌<◌, sym, ap, subst, arith}
use Rattle.task_types.specs.Course.{count, state_after}
use Rattle.task_types.specs.Reckoned.{course_before, effects_at}
use Rattle.timed_meaning.specs.Answers.{Defined}
use Rattle.timed_meaning.proofs.Courses.{all-put, stop-put, passed-on}
use Rattle.timed_meaning.proofs.Showing.{shows}
use Rattle.timed_meaning.proofs.reaching.state_after.Goals as goal

pub returns-in-Err : goal.returns-in-Err
returns-in-Err c = passed-on c.args.task.now.parts c.args.plan.now c.args.k c.in-Err.fault (state_after c.args.task.now.parts c.args.plan.now c.args.k) c.in-Err.ensures

pub returns-in-Ok-apply : goal.returns-in-Ok-apply
returns-in-Ok-apply c =
    let h : c.in-Ok.sweep.agenda.place < count c.args.task.now.parts c.args.plan.now = omega (arith, c.in-Ok.ensures.2, c.requires.there) in
    let applied = c.in-Ok-apply.ensures c.args.plan.now c.in-Ok.ensures.1 h in (
      all-put (course_before c.args.task.now.parts c.args.plan.now c.args.k) c.args.k (effects_at c.args.task.now.parts c.args.plan.now c.args.k) c.in-Ok.ensures.0
          (subst (λ (i : ℕ). Defined (effects_at c.args.task.now.parts c.args.plan.now i)) c.in-Ok.ensures.2 applied.0),
      shows c.args.task.now.parts c.apply.new.self.standing c.into_state.result _ applied.1.0.kept
          (applied.1.0.state ∙ ap (λ a. state_after c.args.task.now.parts c.args.plan.now a.place) applied.1.1 ∙ ap (λ (i : ℕ). state_after c.args.task.now.parts c.args.plan.now i) c.in-Ok.ensures.2) c.into_state.ensures,
    )

pub returns-in-Err-Wide : goal.returns-in-Err-Wide
returns-in-Err-Wide c =
    let h : c.in-Ok.sweep.agenda.place < count c.args.task.now.parts c.args.plan.now = omega (arith, c.in-Ok.ensures.2, c.requires.there) in
    stop-put (course_before c.args.task.now.parts c.args.plan.now c.args.k) c.args.k (effects_at c.args.task.now.parts c.args.plan.now c.args.k) c.in-Ok.ensures.0
    (λ d. let t = rw c.in-Err-Wide.field-0-is at (c.in-Err-Wide.ensures c.args.plan.now c.in-Ok.ensures.1 h) in
    t (subst (λ (i : ℕ). Defined (effects_at c.args.task.now.parts c.args.plan.now i)) (sym c.in-Ok.ensures.2) d))
