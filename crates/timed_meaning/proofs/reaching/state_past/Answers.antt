use Rattle.std.proofs.Common.{◌≡◌, ◌∙◌, ℕ, suc, ◌<◌, ◌++◌, sym, ap, subst, arith}
use Rattle.task_types.specs.Course.{count, reached}
use Rattle.task_types.specs.Reckoned.{course_before, effects_at, move_to}
use Rattle.timed_meaning.specs.Answers.{Defined}
use Rattle.timed_meaning.proofs.Courses.{all-put, stop-put, passed-past}
use Rattle.timed_meaning.proofs.Showing.{shows}
use Rattle.timed_meaning.proofs.reaching.state_past.Goals as goal

pub reach-requires : goal.reach-requires
reach-requires c = (c.args.plan.now, c.in-Ok.ensures.1, (let h : c.in-Ok.sweep.agenda.place < count c.args.task.now.parts c.args.plan.now = omega (arith, c.in-Ok.ensures.2, c.requires.there) in h))

pub returns-in-Err : goal.returns-in-Err
returns-in-Err c = passed-past c.args.task.now.parts c.args.plan.now c.args.k c.args.to c.in-Err.fault (reached c.args.task.now.parts c.args.plan.now (suc c.args.k) c.args.to) c.in-Err.ensures

pub returns-in-Ok-reach : goal.returns-in-Ok-reach
returns-in-Ok-reach c =
    let moved = c.in-Ok-reach.ensures c.args.plan.now c.args.k c.in-Ok.ensures.1 c.in-Ok.ensures.2 c.requires.there in (
      all-put (course_before c.args.task.now.parts c.args.plan.now c.args.k) c.args.k (effects_at c.args.task.now.parts c.args.plan.now c.args.k ++ move_to c.args.task.now.parts c.args.plan.now c.args.k c.args.to) c.in-Ok.ensures.0 moved.0,
      shows c.args.task.now.parts c.reach.new.sweep.standing c.into_state.result _ moved.1.0 moved.1.1 c.into_state.ensures,
    )

pub returns-in-Err-Wide : goal.returns-in-Err-Wide
returns-in-Err-Wide c = stop-put (course_before c.args.task.now.parts c.args.plan.now c.args.k) c.args.k (effects_at c.args.task.now.parts c.args.plan.now c.args.k ++ move_to c.args.task.now.parts c.args.plan.now c.args.k c.args.to) c.in-Ok.ensures.0
    (λ d. let t = rw c.in-Err-Wide.field-0-is at (c.in-Err-Wide.ensures c.args.plan.now c.args.k c.in-Ok.ensures.1 c.in-Ok.ensures.2 c.requires.there) in t d)
