use Rattle.std.proofs.Common.{◌≡◌, ◌∙◌, ◌-◌, ◌≤◌, ◌<◌, ℕ, suc, sym, ap, length, arith}
use Rattle.task_types.specs.Course.{count, count_before, reached, passed}
use Rattle.task_types.specs.Reckoned.{course_reaching}
use Rattle.timed_meaning.proofs.Courses.{gives-as}
use Rattle.timed_meaning.proofs.Listed.{few-happenings}
use Rattle.timed_meaning.proofs.Stepping.{before-passed, initial-reached}
use Rattle.timed_meaning.proofs.reaching.state_at.Goals as goal

pub returns-then-passed-eq0 : goal.returns-then-passed-eq0
returns-then-passed-eq0 c =
    let e : passed c.args.task.now.parts c.args.plan.now c.args.at ≡ 0 = sym (c.count_before-passed.ensures.value ∙ ap (count_before c.args.at) (c.as_slice.ensures.value ∙ c.in-Ok.ensures)) ∙ c.if-passed-eq0.true in
    gives-as c.args.task.now.parts c.args.plan.now c.first_state.result _ _ _ _ (sym (ap (λ n. course_reaching c.args.task.now.parts c.args.plan.now n c.args.at) e))
    (initial-reached c.args.task.now.parts c.args.plan.now c.args.at ∙ before-passed c.args.task.now.parts c.args.plan.now c.args.at 0 e) c.first_state.ensures

pub overflow_cast-passed : goal.overflow_cast-passed
overflow_cast-passed c =
    let few : count c.args.task.now.parts c.args.plan.now ≤ 8256 = few-happenings c.args.task.now.parts c.args.plan.now c.args.task.now.well_made c.requires in
    let e : length c.as_slice.result.now ≡ count c.args.task.now.parts c.args.plan.now = ap length (c.as_slice.ensures.value ∙ c.in-Ok.ensures) in
    omega (arith, few, e, c.count_before-passed.ensures.within)

pub returns : goal.returns
returns c =
    let e : passed c.args.task.now.parts c.args.plan.now c.args.at ≡ suc (c.count_before-passed.result - 1) = sym (c.count_before-passed.ensures.value ∙ ap (count_before c.args.at) (c.as_slice.ensures.value ∙ c.in-Ok.ensures)) ∙ (let z : c.count_before-passed.result ≡ suc (c.count_before-passed.result - 1) = omega (arith, c.if-passed-eq0.false) in z) in
    gives-as c.args.task.now.parts c.args.plan.now c.state_past.result _ _ _ _ (sym (ap (λ n. course_reaching c.args.task.now.parts c.args.plan.now n c.args.at) e))
    (before-passed c.args.task.now.parts c.args.plan.now c.args.at (suc (c.count_before-passed.result - 1)) e) c.state_past.ensures
