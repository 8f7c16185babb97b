use Rattle.std.proofs.Common.{◌≡◌, ◌∙◌, ℕ, ◌<◌, ◌++◌, suc, sym, ap, subst, add-one, arith}
use Rattle.exact_lin.specs.Reckoning.{wide_limit}
use Rattle.exact_lin.specs.Reckonings.{AllDefined}
use Rattle.task_types.specs.Course.{count}
use Rattle.task_types.specs.Reckoned.{course_before, effects_at, move_at}
use Rattle.timed_meaning.specs.Answers.{Defined}
use Rattle.timed_meaning.proofs.Courses.{course-onward, course-stop}
use Rattle.timed_meaning.proofs.reaching.sweep_to.Goals as goal

pub returns-in-Err-Wide : goal.returns-in-Err-Wide
returns-in-Err-Wide c =
    let h : suc c.loop-j.sweep.agenda.place < count c.args.task.now.parts c.args.plan.now = omega (arith, c.loop-j.invariant.2, c.loop-j-test.true, c.requires.there) in
    course-stop c.args.task.now.parts c.args.plan.now c.loop-j.j c.args.k c.loop-j-test.true c.loop-j.invariant.0
    (λ d. let t = rw c.in-Err-Wide.field-0-is at (c.in-Err-Wide.ensures c.args.plan.now c.loop-j.invariant.1 h) in
    t (subst (λ (i : ℕ). Defined (effects_at c.args.task.now.parts c.args.plan.now i ++ move_at c.args.task.now.parts c.args.plan.now i)) (sym c.loop-j.invariant.2) d))

pub loop-j-preserved : goal.loop-j-preserved
loop-j-preserved c =
    let h : suc c.loop-j.sweep.agenda.place < count c.args.task.now.parts c.args.plan.now = omega (arith, c.loop-j.invariant.2, c.loop-j-test.true, c.requires.there) in
    let stepped = c.in-Ok-step.ensures c.args.plan.now c.loop-j.invariant.1 h in (
      course-onward c.args.task.now.parts c.args.plan.now c.loop-j.j c.loop-j.invariant.0 (subst (λ (i : ℕ). Defined (effects_at c.args.task.now.parts c.args.plan.now i ++ move_at c.args.task.now.parts c.args.plan.now i)) c.loop-j.invariant.2 stepped.0),
      stepped.1.0,
      stepped.1.1 ∙ ap suc c.loop-j.invariant.2 ∙ sym (add-one c.loop-j.j),
    )

pub returns : goal.returns
returns c =
    let e : c.loop-j.j ≡ c.args.k = omega arith in
    (subst (λ (i : ℕ). AllDefined wide_limit (course_before c.args.task.now.parts c.args.plan.now i)) e c.loop-j.invariant.0, c.loop-j.invariant.1, c.loop-j.invariant.2 ∙ e)
