use Rattle.std.proofs.Common.{◌≡◌, ℕ, suc, ◌<◌, ◌^◌, ap, sym, subst, add-one, arith}
use Rattle.exact_lin.specs.Reckoning.{wide_limit}
use Rattle.exact_lin.specs.Reckonings.{AllDefined}
use Rattle.task_types.specs.Course.{count}
use Rattle.task_types.specs.Reckoned.{course_before}
use Rattle.timed_meaning.proofs.Courses.{course-onward, course-stop}
use Rattle.metric_cost.specs.Following.{StandsBefore}
use Rattle.metric_cost.proofs.Counting.{few_happenings}
use Rattle.metric_cost.proofs.costing.follow_to.Goals as goal

pub step-requires : goal.step-requires
step-requires c = (c.args.plan.now, c.loop-j.j, c.loop-j.invariant.1, omega (arith, c.loop-j-test.true, c.requires.there), few_happenings c.args.task.now.parts c.args.plan.now c.args.task.now.well_made c.requires.built)

pub returns-in-Err-Wide : goal.returns-in-Err-Wide
returns-in-Err-Wide c =
    let more : suc c.loop-j.j < count c.args.task.now.parts c.args.plan.now = omega (arith, c.loop-j-test.true, c.requires.there) in
    course-stop c.args.task.now.parts c.args.plan.now c.loop-j.j c.args.k c.loop-j-test.true c.loop-j.invariant.0
    (λ d. let t = rw c.in-Err-Wide.field-0-is at (c.in-Err-Wide.ensures c.args.plan.now c.loop-j.j c.loop-j.invariant.1 more) in t d)

pub loop-j-preserved : goal.loop-j-preserved
loop-j-preserved c =
    let more : suc c.loop-j.j < count c.args.task.now.parts c.args.plan.now = omega (arith, c.loop-j-test.true, c.requires.there) in
    let stepped = c.in-Ok-step.ensures c.args.plan.now c.loop-j.j c.loop-j.invariant.1 more in
    (course-onward c.args.task.now.parts c.args.plan.now c.loop-j.j c.loop-j.invariant.0 stepped.0, subst (λ (i : ℕ). StandsBefore c.args.task.now.parts c.args.plan.now c.step.new.self i) (sym (add-one c.loop-j.j)) stepped.1)

pub returns : goal.returns
returns c =
    let e : c.loop-j.j ≡ c.args.k = omega arith in
    (subst (λ (i : ℕ). AllDefined wide_limit (course_before c.args.task.now.parts c.args.plan.now i)) e c.loop-j.invariant.0, subst (λ (i : ℕ). StandsBefore c.args.task.now.parts c.args.plan.now c.loop-j.follower i) e c.loop-j.invariant.1)
